use Rattle.std.proofs.Common.{ℕ, ◌+◌, ◌≤◌, List, ◌++◌, length, refl, arith, length-append}
use Rattle.folding.proofs.Texts.{bytes_slice, bytes_append}
use Rattle.roll.specs.Sizes.{longest}
use Rattle.roll.specs.Stands.{Counted}
use Rattle.roll.proofs.feeding.feed.Goals as goal

pub returns : goal.returns
returns g c =
    let text = c.args.bytes.now in
    let bytes = bytes_slice _ c.type_inv.bytes in
    let few : c.args.strip.now.fed + length text ≤ longest = let fits = c.if-bytes-strip.false in let short = c.args.strip.now.short in omega arith in
    let counts : (w : List ℕ) → Counted c.args.strip.now w → Counted _ (w ++ text) = λ w h. record {
      bytes = bytes_append w _ h.bytes bytes;
      tallies = c.extend-strip-2.ensures.extends w h.bytes h.tallies;
      count = let count = h.count in omega (arith, length-append w text);
    } in
    record {
      feeds = record {
        text = bytes;
        cases = (refl, few, refl);
        counts = counts;
        holds = λ w h. record { counted = counts w h.counted; legs = c.extend-strip.ensures.extends w h.counted.bytes h.legs };
      };
    }

pub returns-then-bytes-strip : goal.returns-then-bytes-strip
returns-then-bytes-strip g c = record {
  feeds = record {
    text = bytes_slice _ c.type_inv.bytes;
    cases = (let over = c.if-bytes-strip.true in let short = c.args.strip.now.short in omega arith, c.fault.ensures.value, refl);
    counts = λ w h. h;
    holds = λ w h. h;
  };
}
