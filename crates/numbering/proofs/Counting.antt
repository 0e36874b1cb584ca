-- What makes texts the same may be said in two ways. Assumes nothing.
use Rattle.std.proofs.Common.{◌≡◌, ℕ, List, [], Some, subst}
use Rattle.std.specs.List.{slice_get}
use Rattle.std.proofs.lemmas.Option.{get_or_from_slice_get}
use Rattle.folding.specs.Texts.{Bytes, AllBytes}
use Rattle.folding.proofs.Texts.{bytes_slot}
use Rattle.numbering.specs.Reaching.{Unlike}

bytes_at : (texts : List (List ℕ)) (i : ℕ) (w : List ℕ) → AllBytes texts → slice_get texts i ≡ Some w → Bytes w
bytes_at texts i w bytes at = subst Bytes (get_or_from_slice_get texts i w [] at) (bytes_slot texts i bytes)

pub unlike_by : (n : ℕ) (Same Like : List ℕ → List ℕ → Type 0) → ((v w : List ℕ) → Bytes v → Bytes w → Like v w → Same v w) → Unlike n Same → Unlike n Like
unlike_by n Same Like from more = record {
  texts = more.texts;
  bytes = more.bytes;
  many = more.many;
  differ = λ i j v w here there like. more.differ i j v w here there (from v w (bytes_at more.texts i v more.bytes here) (bytes_at more.texts j w more.bytes there) like);
}
