use Rattle.std.specs.Prelude.{ℕ, ◌+◌, ◌-◌, ◌*◌, ◌^◌, Bool, true, cond, ◌&&◌, List, [], ◌∷◌, length, Some, None, Option, nat_le, nat_lt}
use Rattle.std.specs.Option.{option_map}
use Rattle.notation.specs.Words.{words_in}

-- One reading after another: the first that says nothing ends it.
abbrev pub and_then : {A B : Type 0} → Option A → (A → Option B) → Option B
and_then None f = None
and_then (Some x) f = f x

-- A decimal digit: 30 to 39 hexadecimal.
abbrev pub is_digit : ℕ → Bool
is_digit b = nat_le 0x30 b && nat_le b 0x39

abbrev pub all_digits : List ℕ → Bool
all_digits [] = true
all_digits (b ∷ bs) = is_digit b && all_digits bs

-- What digits say after those that say n.
abbrev pub value_from : ℕ → List ℕ → ℕ
value_from n [] = n
value_from n (b ∷ bs) = value_from (n * 10 + (b - 0x30)) bs

-- The number that a word says: at least one digit, and no other byte, and 64 bits hold it.
abbrev pub number_in : List ℕ → Option ℕ
number_in w = cond ((nat_lt 0 (length w) && all_digits w) && nat_lt (value_from 0 w) (2 ^ 64)) (Some (value_from 0 w)) None

-- The numbers that words say, if each says one.
abbrev pub all_numbers : List (List ℕ) → Option (List ℕ)
all_numbers [] = Some []
all_numbers (w ∷ ws) = and_then (number_in w) (λ n. option_map (λ ns. n ∷ ns) (all_numbers ws))

-- The numbers of a line.
abbrev pub numbers_in : List ℕ → Option (List ℕ)
numbers_in line = all_numbers (words_in line)

-- Numbers that all are below 2^16, or none.
abbrev pub all_short : List ℕ → Bool
all_short [] = true
all_short (n ∷ ns) = nat_lt n (2 ^ 16) && all_short ns
