-- Where a search begins in blank cells, those past what it wrote are blank. Assumes nothing.
use Rattle.std.proofs.Common.{◌≡◌, ℕ, ◌-◌, List, length, drop, replicate, sym, ap, ◌∙◌}
use Rattle.std.proofs.lemmas.List.{drop-replicate}
use Rattle.numbering.specs.Filling.{Blank}

pub blank_after : (n room : ℕ) (were are : List ℕ) → were ≡ replicate room 0 → length are ≡ room → drop n are ≡ drop n were → Blank n are
blank_after n room were are blank long rest = rest ∙ ap (drop n) blank ∙ drop-replicate n room 0 ∙ ap (λ k. replicate (k - n) 0) (sym long)
