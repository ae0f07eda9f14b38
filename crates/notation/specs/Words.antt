use Rattle.std.specs.Prelude.{ℕ, Bool, cond, not, List, [], ◌∷◌, ◌++◌, take, drop, ◌==◌}
use Rattle.std.specs.List.{prefix_len}

-- A blank is 20 hexadecimal, and no other byte.
abbrev pub is_blank : ℕ → Bool
is_blank b = b == 0x20

-- How many bytes stand before the first that is b, or how many there are.
abbrev pub up_to : ℕ → List ℕ → ℕ
up_to b bs = prefix_len (λ c. not (c == b)) bs

-- A line without the blanks in front.
abbrev pub trimmed : List ℕ → List ℕ
trimmed line = drop (prefix_len is_blank line) line

-- The first word of a line, empty where it has none, and what stands after it.
abbrev pub first_word : List ℕ → List ℕ
first_word line = take (up_to 0x20 (trimmed line)) (trimmed line)

abbrev pub after_word : List ℕ → List ℕ
after_word line = drop (up_to 0x20 (trimmed line)) (trimmed line)

-- A word before others, unless it is empty.
abbrev pub before : List ℕ → List (List ℕ) → List (List ℕ)
before [] ws = ws
before (b ∷ bs) ws = (b ∷ bs) ∷ ws

-- The words of a line, where the bytes so far are the front of the first.
abbrev pub words_from : List ℕ → List ℕ → List (List ℕ)
words_from front [] = before front []
words_from front (b ∷ bs) = cond (is_blank b) (before front (words_from [] bs)) (words_from (front ++ (b ∷ [])) bs)

abbrev pub words_in : List ℕ → List (List ℕ)
words_in line = words_from [] line
