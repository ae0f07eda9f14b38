use Rattle.std.specs.Prelude.{ℕ, ◌+◌, ◌*◌, ◌%◌, Bool, false, cond, List, [], ◌∷◌, reverse, nat_lt}
use Rattle.std.specs.Int.Digits.{digits_of}

-- The unsigned LEB128 of the DWARF standard ("Variable Length Data"): the digits of the number in base 128, the low one first,
-- with the high bit set on each byte but the last. The number 0 is the one digit 0.
abbrev pub marked : List ℕ → List ℕ
marked [] = 0 ∷ []
marked (d ∷ []) = d ∷ []
marked (d ∷ e ∷ ds) = (d + 128) ∷ marked (e ∷ ds)

-- The shortest form of a number.
unfoldable pub uleb : ℕ → List ℕ
uleb n = marked (reverse (digits_of 128 n))

-- What a form says: the sum of its digits, each with its weight; a byte's digit is its low seven bits.
abbrev pub sum_of : List ℕ → ℕ
sum_of [] = 0
sum_of (b ∷ bs) = b % 128 + 128 * sum_of bs

-- A form: bytes with the high bit set, then one without it.
abbrev pub form : List ℕ → Bool
form [] = false
form (b ∷ []) = nat_lt b 128
form (b ∷ c ∷ bs) = cond (nat_lt b 128) false (form (c ∷ bs))
