use Rattle.std.proofs.Common.{◌*◌, take, drop, sym, ◌∙◌, subst}
use Rattle.std.specs.List.{AllByRecursion}
use Rattle.folding.specs.Texts.{Bytes}
use Rattle.folding.proofs.Texts.{bytes_slice}
use Rattle.bundle.specs.Cuts.{cut}
use Rattle.bundle.specs.Layout.{OfBytes, written}
use Rattle.bundle.proofs.Parted.{byte_parts, put_together}
use Rattle.bundle.proofs.decode.parted.Goals as goal

pub returns : goal.returns
returns c =
    let bs = c.args.input.now in
    let n = c.word-n.ensures.value in
    let p = c.word-p.ensures.value in
    let body = c.part.ensures.back in
    let slots = c.part-2.ensures.front ∙ (λ i. take (n i) (body i)) in
    let after = c.part-2.ensures.back ∙ (λ i. drop (n i) (body i)) in
    let lengths = c.part-3.ensures.front ∙ (λ i. take (2 * n i) (after i)) in
    let last = c.part-3.ensures.back ∙ (λ i. drop (2 * n i) (after i)) in
    let pattern = c.part-4.ensures.front ∙ (λ i. take (p i) (last i)) in
    let texts = c.part-4.ensures.back ∙ (λ i. drop (p i) (last i)) in
    let bytes = bytes_slice bs c.type_inv.input in
    record {
      bytes = subst (λ x. x) (sym (λ i. Bytes (pattern i) × AllByRecursion OfBytes (cut (slots i) (lengths i) (texts i)))) (byte_parts bs bytes);
      whole = λ right. put_together bs bytes right ∙ sym (λ i. written (pattern i) (cut (slots i) (lengths i) (texts i)));
    }
