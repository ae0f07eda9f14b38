-- Packing 16-bit units, four to a word.
use Rattle.std.specs.Prelude.{ℕ, ◌+◌, ◌*◌, ◌/◌, ◌^◌, Bool, ◌&&◌, List, map, length, nat_le, nat_lt, slice_index}
use Rattle.std.specs.List.{list_any, range_with_len}

-- The word of the four units from i on, the first in the low bits, 0 for each that there is not.
abbrev pub packed_at : List ℕ → ℕ → ℕ
packed_at us i = slice_index us i + slice_index us (i + 1) * 2 ^ 16 + slice_index us (i + 2) * 2 ^ 32 + slice_index us (i + 3) * 2 ^ 48

-- How many words n units take.
abbrev pub words_of : ℕ → ℕ
words_of n = (n + 3) / 4

-- The words that the units take.
abbrev pub packed : List ℕ → List ℕ
packed us = map (λ k. packed_at us (4 * k)) (range_with_len 0 (words_of (length us)))

-- Whether a unit is D800 to DFFF.
abbrev pub surrogate : ℕ → Bool
surrogate u = nat_le 0xD800 u && nat_lt u 0xE000

-- Whether one of the units is.
abbrev pub surrogates : List ℕ → Bool
surrogates us = list_any surrogate us
