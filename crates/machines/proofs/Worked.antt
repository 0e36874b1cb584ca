-- The worked examples, one by one. Assumes nothing.
use Rattle.std.proofs.Common.{refl}
use Rattle.notation.specs.Expressions.{empty}
use Rattle.notation.proofs.Worked.{empty_read, empty_omits, stars, stars_read, stars_none, stars_twice, stars_omit, plusses, plusses_read, plusses_yield, plusses_omit, counts, counts_read, counts_yield, counts_omit, none_of, none_read, none_omits, full, full_read, crowded, most_below_least, range_backwards, count_too_large, repeated_twice, nothing_to_repeat, digit, digit_read, digit_yields, digit_omits, not_a, not_a_read, not_a_yields, not_a_omits, unknown_name, nothing_left}
use Rattle.machines.specs.Examples.{Examples}
use Rattle.machines.proofs.EmptyPattern.{two_sets, two_starts}

infixr 10 ◌and◌
abbrev ◌and◌ : {A B : Type 0} → A → B → A × B
a and b = (a, b)

pub examples : Examples
examples =
    (empty, empty_read, refl)
    and (empty, empty_read, refl)
    and (empty, empty_read, empty_omits)
    and (empty, empty_read, two_sets.0, two_sets.1)
    and (empty, empty_read, two_starts.0, two_starts.1)
    and (stars, stars_read, refl)
    and (stars, stars_read, stars_none)
    and (stars, stars_read, stars_twice)
    and (stars, stars_read, stars_omit)
    and (plusses, plusses_read, refl)
    and (plusses, plusses_read, plusses_yield)
    and (plusses, plusses_read, plusses_omit)
    and (counts, counts_read, refl)
    and (counts, counts_read, counts_yield)
    and (counts, counts_read, counts_omit)
    and (none_of, none_read, refl)
    and (none_of, none_read, none_omits)
    and (full, full_read, refl)
    and crowded
    and most_below_least
    and range_backwards
    and count_too_large
    and repeated_twice
    and nothing_to_repeat
    and (digit, digit_read, digit_yields)
    and (digit, digit_read, digit_omits)
    and (not_a, not_a_read, not_a_yields)
    and (not_a, not_a_read, not_a_omits)
    and unknown_name
    and nothing_left
    and tt
