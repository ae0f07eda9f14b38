use Rattle.std.specs.Prelude.{ℕ}
use Rattle.leb128.specs.declared.fault.NumberCause.{NumberCause}
use Rattle.leb128.specs.declared.fault.NumberCause.TheVariants.{Ends, Large}

-- The number of each refusal.
abbrev pub number_cause : NumberCause → ℕ
number_cause Ends = 17
number_cause Large = 18

-- The number of the one refusal of a number's writer.
abbrev pub no_room : ℕ
no_room = 20
