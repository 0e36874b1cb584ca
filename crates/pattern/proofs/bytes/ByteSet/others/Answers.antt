use Rattle.std.proofs.Common.{false, not, get_or, arith}
use Rattle.std.proofs.lemmas.Bool.Decides.{Decides-at, Decides-like, Decides-not}
use Rattle.pattern.proofs.bytes.ByteSet.others.Goals as goal

pub returns : goal.returns
returns c = record {
  value = λ rs held i lt.
      let is = get_or c.args.self.now.has i false in
      Decides-at (get_or c.loop-byte.has-items i false) (not is) (c.loop-byte.invariant i (omega arith)) (Decides-like (not is) (λ none. (lt, none)) (λ both. both.1) (Decides-not is (held i lt)));
}
