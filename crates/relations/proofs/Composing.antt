-- Composition of relations by members: it is associative, and the identity is neutral. Assumes nothing.
use Rattle.std.specs.Prelude.{◌≡◌, ℕ, ◌<◌}
use Rattle.std.proofs.Common.{sym, subst}
use Rattle.relations.specs.declared.relation.Relation.{Relation}
use Rattle.relations.specs.Masks.{Has, image}
use Rattle.relations.specs.Relations.{row, composed, Composes, Associative}
use Rattle.relations.proofs.Images.{image_members}
use Rattle.relations.proofs.Bits.{same_masks}
use Rattle.relations.proofs.Rows.{rows_at, same_rows}

pub same_relation : (a b : Relation) → a.rows ≡ b.rows → a ≡ b
same_relation a b e i = record { rows = e i }

pub composed_members : (a b : Relation) → Composes a b (composed a b)
composed_members a b q p lt =
    let f : ℕ → ℕ = λ q. image b.rows (row a q) in
    let both = image_members b.rows (row a q) p in
    (λ h. both.0 (subst (λ x. Has x p) (rows_at f q lt) h), λ m. subst (λ x. Has x p) (sym (rows_at f q lt)) (both.1 m))

pub composed_by : (a b r : Relation) → r ≡ composed a b → Composes a b r
composed_by a b r e = subst (Composes a b) (sym e) (composed_members a b)

pub associative : Associative
associative a b c =
    same_relation (composed (composed a b) c) (composed a (composed b c))
    (same_rows (λ q. image c.rows (row (composed a b) q)) (λ q. image (composed b c).rows (row a q))
    (λ q lt. same_masks (image c.rows (row (composed a b) q)) (image (composed b c).rows (row a q)) (λ p. (there q lt p, back q lt p))))
  where
    there : (q : ℕ) → q < 64 → (p : ℕ) → Has (image c.rows (row (composed a b) q)) p → Has (image (composed b c).rows (row a q)) p
    there q lt p h =
        let x = (image_members c.rows (row (composed a b) q) p).0 h in
        let y = (composed_members a b q x.0 lt).0 x.2 in
        (image_members (composed b c).rows (row a q) p).1 (y.0, y.1, y.2, (composed_members b c y.0 p y.1).1 (x.0, x.1, y.3, x.3))

    back : (q : ℕ) → q < 64 → (p : ℕ) → Has (image (composed b c).rows (row a q)) p → Has (image c.rows (row (composed a b) q)) p
    back q lt p h =
        let x = (image_members (composed b c).rows (row a q) p).0 h in
        let y = (composed_members b c x.0 p x.1).0 x.3 in
        (image_members c.rows (row (composed a b) q) p).1 (y.0, y.1, (composed_members a b q y.0 lt).1 (x.0, x.1, x.2, y.2), y.3)
