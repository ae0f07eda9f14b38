use Rattle.std.specs.Prelude.{ℕ, ◌+◌, ◌-◌, ◌*◌, ◌/◌, ◌%◌, Bool, true, false, cond, ◌&&◌, ◌||◌, List, [], ◌∷◌, nat_le, nat_lt}

-- Bytes are pairs of hexadecimal digits, the high one first, in either case.
abbrev pub is_decimal : ℕ → Bool
is_decimal c = nat_le 0x30 c && nat_le c 0x39

abbrev pub is_capital : ℕ → Bool
is_capital c = nat_le 0x41 c && nat_le c 0x46

abbrev pub is_small : ℕ → Bool
is_small c = nat_le 0x61 c && nat_le c 0x66

abbrev pub is_hex_digit : ℕ → Bool
is_hex_digit c = (is_decimal c || is_capital c) || is_small c

-- What a hexadecimal digit says; another byte says 0.
abbrev pub nibble : ℕ → ℕ
nibble c = cond (is_decimal c) (c - 0x30) (cond (is_capital c) (c - 0x37) (cond (is_small c) (c - 0x57) 0))

-- Pairs of hexadecimal digits, and no other byte.
abbrev pub is_hex : List ℕ → Bool
is_hex [] = true
is_hex (a ∷ []) = false
is_hex (a ∷ b ∷ cs) = (is_hex_digit a && is_hex_digit b) && is_hex cs

-- The bytes that pairs of digits say.
abbrev pub bytes_in : List ℕ → List ℕ
bytes_in [] = []
bytes_in (a ∷ []) = []
bytes_in (a ∷ b ∷ cs) = (nibble a * 16 + nibble b) ∷ bytes_in cs

-- The digit of a number below 16, in capitals.
abbrev pub digit_of : ℕ → ℕ
digit_of n = cond (nat_lt n 10) (0x30 + n) (0x37 + n)

-- Bytes as digits.
abbrev pub hex_of : List ℕ → List ℕ
hex_of [] = []
hex_of (b ∷ bs) = digit_of (b / 16) ∷ digit_of (b % 16) ∷ hex_of bs
