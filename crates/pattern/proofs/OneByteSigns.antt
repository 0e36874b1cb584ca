-- A sign of one byte is handed out, or its byte is refused. Assumes nothing.
use Rattle.std.proofs.Common.{◌≡◌, ℕ, ◌+◌, ◌-◌, ◌<◌, Bool, true, false, List, [], ◌∷◌, length, get_or, take, drop, Result, MatchResult, sym, ◌∙◌, subst}
use Rattle.std.proofs.lemmas.Bool.{lt-leb, false≢true}
use Rattle.std.proofs.lemmas.Result.{MatchResult-weaker}
use Rattle.fault.specs.declared.Fault.{Fault}
use Rattle.fault.specs.declared.Refusal.TheVariants.{BadlyWritten}
use Rattle.pattern.specs.declared.sign.Sign.{Sign}
use Rattle.notation.specs.Characters.{kind}
use Rattle.notation.specs.Automaton.{Frame, dead, begin}
use Rattle.notation.specs.Refusals.{refused}
use Rattle.pattern.specs.Signs.{text, is_end, Formed, Handed, SignRefused}
use Rattle.notation.proofs.Runs.{is_repeat}
use Rattle.pattern.proofs.SignWays.{one_byte, one_part, never_here, nothing_to_repeat}
use Rattle.pattern.proofs.SignShapes.{Shape, none_here}

module _ (p : List ℕ) (at b : ℕ) (lt : at < length p) (is : get_or p at 0 ≡ b) where
  pub one_handed : (r : Bool) (s : Sign) → Formed r s → text s ≡ take (at + 1 - at) (drop at p) → is_end s ≡ false → Handed p at r s
  one_handed r s formed same more = record { formed = formed; part = rw same (one_part p at lt); ended = more ∙ sym (lt-leb _ _ lt) }

  module _ (dies : (fr : Frame) (d : ℕ) (ctx : List Frame) → begin (kind b) b fr d ctx ≡ dead) where
    -- no sign begins with the byte
    pub no_sign : (r : Bool) (f : Fault) → is_repeat (kind b) ≡ false → ((w : List ℕ) → Shape (kind b) r w → ⊥) → f ≡ refused BadlyWritten at → SignRefused p at r f
    no_sign r f other never fault = record { none = none_here p at b lt is r never; stops = never_here p at lt r f b is other dies fault }

    -- a repeat begins with it, and there is nothing to repeat
    pub no_atom : (r : Bool) (f : Fault) → r ≡ false → ((w : List ℕ) → Shape (kind b) false w → false ≡ true) → f ≡ refused BadlyWritten at → SignRefused p at r f
    no_atom r f first asks fault =
        subst (λ x. SignRefused p at x f) (sym first) (record { none = none_here p at b lt is false (λ w shaped. false≢true (asks w shaped)); stops = nothing_to_repeat p at lt f b is dies fault })

    pub repeat_handed : (r : Bool) (s : Sign) (answer : Result Sign Fault) → MatchResult answer (λ t. (t ≡ s) × (r ≡ true)) (λ f. (f ≡ refused BadlyWritten at) × (r ≡ false)) → ((w : List ℕ) → Shape (kind b) false w → false ≡ true)
        → (take (at + 1 - at) (drop at p) ≡ b ∷ [] → r ≡ true → Formed r s) → text s ≡ take (at + 1 - at) (drop at p) → is_end s ≡ false → MatchResult answer (Handed p at r) (SignRefused p at r)
    repeat_handed r s answer told asks formed same more =
        MatchResult-weaker answer told
        (λ t done. subst (Handed p at r) (sym done.0) (one_handed r s (formed (one_byte p at lt b is) done.1) same more))
        (λ f none. no_atom r f none.1 asks none.0)
