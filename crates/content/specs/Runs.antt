-- Runs of units that lie in words.
use Rattle.std.specs.Prelude.{ℕ, ◌-◌, ◌*◌, ◌/◌, ◌%◌, ◌^◌, cond, List, map, nat_lt, slice_index}
use Rattle.std.specs.List.{range_with_len}

-- What stands at each place from a on and before b, where f says what stands at a place.
abbrev pub run : (ℕ → ℕ) → ℕ → ℕ → List ℕ
run f a b = map f (range_with_len a (b - a))

-- The reach of a run from a up to b: n where it has a place, else 0.
abbrev pub run_reach : ℕ → ℕ → ℕ → ℕ
run_reach a b n = cond (nat_lt a b) n 0

-- The word at place i.
abbrev pub word_at : List ℕ → ℕ → ℕ
word_at t i = slice_index t i

-- The 16 bits of the word w from bit 16 · j on.
abbrev pub slot : ℕ → ℕ → ℕ
slot w j = w / 2 ^ (16 * j) % 2 ^ 16

-- The 16-bit unit at place i: the bits from 16 · (i mod 4) on of word i / 4.
abbrev pub code_unit : List ℕ → ℕ → ℕ
code_unit t i = slot (slice_index t (i / 4)) (i % 4)
