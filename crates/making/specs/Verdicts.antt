-- When a making is refused, and by which number.
use Rattle.std.specs.Prelude.{ℕ, ◌-◌, min, Bool, cond, ◌||◌, Some, None, Ok, Err, Option, Result, ◌==◌, nat_lt}
use Rattle.making.specs.declared.refusal.Refusal.{Refusal}
use Rattle.making.specs.declared.refusal.Refusal.TheVariants.{LengthOutside, SurrogateUnit, TooFewWords}

-- The number of each refusal.
abbrev pub refusal_number : Refusal → ℕ
refusal_number LengthOutside = 6
refusal_number SurrogateUnit = 9
refusal_number TooFewWords = 8

-- The number by which an answer refuses, or None where it accepts.
abbrev pub refused : {X : Type 0} → Result X Refusal → Option ℕ
refused (Ok x) = None
refused (Err e) = Some (refusal_number e)

-- The free words of a table of len words of which some are used: it has no more than 65,536, however long it is.
abbrev pub free : ℕ → ℕ → ℕ
free len used = min len 65536 - used

-- By which number n units that take m words are refused in a table of len words of which some are used, or None.
-- It is 6 if n is 0 or above 65,536, else 9 if a unit is faulty, else 8 if fewer than m words are free.
abbrev pub verdict : ℕ → Bool → ℕ → ℕ → ℕ → Option ℕ
verdict n faulty m len used =
    cond (n == 0 || nat_lt 65536 n) (Some 6) (cond faulty (Some 9) (cond (nat_lt (free len used) m) (Some 8) None))
