-- The number of each refusal. Assumes nothing.
use Rattle.std.specs.Prelude.{ℕ}
use Rattle.fault.specs.declared.Refusal.{Refusal}
use Rattle.fault.specs.declared.Refusal.TheVariants.{PatternTooLong, BadlyWritten, TooManyPlaces, TableLength, TooManySets, TooManyStarts, StripTooLong, SlotCount, NoSuchSlot, SlotEmpty, BundleSize}

abbrev pub number : Refusal → ℕ
number PatternTooLong = 1
number BadlyWritten = 2
number TooManyPlaces = 3
number TableLength = 4
number TooManySets = 5
number TooManyStarts = 6
number StripTooLong = 7
number SlotCount = 8
number NoSuchSlot = 9
number SlotEmpty = 10
number BundleSize = 11
