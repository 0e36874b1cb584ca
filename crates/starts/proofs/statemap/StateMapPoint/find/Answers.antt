use Rattle.std.proofs.Common.{◌≡◌, ◌≢◌, List, ℕ, rules, refl, length, ◌/◌, true}
use borrow.Author.Tests.{tests}
use Rattle.std.specs.Simd.{first_chunks}
use Rattle.std.proofs.lemmas.Bool.Decides.{Decides-eqb}
use Rattle.std.proofs.lemmas.Slice.Eq.{slice_eq-Decides}
use Rattle.std.proofs.lemmas.Iterator.{IsFirst-from_position, YieldsList-from_slice, YieldsList-from_take}
use Rattle.starts.proofs.Rows.{found}
use Rattle.starts.proofs.statemap.StateMapPoint.find.Goals as goal

pub returns : goal.returns
returns c =
    let cells = c.args.cells.now in
    let to = c.args.self.now.to in
    record {
      cases =
          found cells c.args.count c.args.self.now c.position.result
          (IsFirst-from_position _ _ c.position.result (λ (xs : List ℕ). xs ≡ to) (λ (xs : List ℕ). xs ≢ to) c.position.ensures.ran
          (YieldsList-from_take c.args.count (YieldsList-from_slice (first_chunks 64 (length cells / 64) cells) (cc)) (cc))
          (λ x q k. (slice_eq-Decides Decides-eqb x.now to true (search rules)).0 refl)
          (λ x q k. (search rules, search (rules, tests))));
    }
