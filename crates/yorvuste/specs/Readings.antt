-- What reading a pattern comes to, in numbers. Assumes nothing.
--
--   granted n   read, with n places
--   refused f   the fault f
--   Reads w r   r is what reading w comes to
use Rattle.std.specs.Prelude.{◌≡◌, ℕ, ◌⊎◌, List}
use Rattle.yorvuste.specs.declared.reading.Reading.{Reading}
use Rattle.fault.specs.Numbers.{number}
use Rattle.fault.specs.declared.Fault.{Fault}
use Rattle.notation.specs.Reading.{Granted, Refused}

abbrev pub granted : ℕ → Reading
granted n = record { refusal = 0; places = n; place = 0 }

abbrev pub refused : Fault → Reading
refused f = record { refusal = number f.refusal; places = 0; place = f.place }

abbrev pub Reads : List ℕ → Reading → Type 0
Reads w r = ((n : ℕ) × Granted w n × (r ≡ granted n)) ⊎ ((f : Fault) × Refused w f × (r ≡ refused f))
