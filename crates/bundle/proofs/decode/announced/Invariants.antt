use Rattle.std.proofs.Common.{◌≡◌, ◌+◌, ◌-◌, ◌*◌, ◌<◌, ◌≤◌}
use Rattle.bundle.specs.Sizes.{announced, sum16}
use Rattle.bundle.proofs.decode.announced.Given as goal

-- what is still to be added; the bound keeps the sum far from the width of a `usize`
abbrev pub invariant-loop-k : goal.invariant-loop-k
invariant-loop-k l =
    (l.size + sum16 l.input (4 + l.n + 2 * l.k) (l.n - l.k) ≡ announced l.input)
    × (l.size ≤ 262144 + 65536 * l.k)
    × (l.n < 65536)
