use Rattle.std.specs.Prelude.{ℕ, zero, suc, Bool, cond, List, [], ◌∷◌, length, Some, None, Option, ◌==◌}
use Rattle.std.specs.Option.{option_map}
use Rattle.notation.specs.Words.{first_word, after_word}
use Rattle.notation.specs.Numerals.{and_then, number_in}
use Rattle.spelling.specs.Sides.{id_in}

-- No word is left.
abbrev pub ended : List ℕ → Bool
ended line = length (first_word line) == 0

-- A number, and what stands after it.
abbrev pub front : List ℕ → Option (ℕ × List ℕ)
front line = option_map (λ n. (n, after_word line)) (number_in (first_word line))

-- So many numbers, and nothing more.
abbrev pub counted : ℕ → List ℕ → Option (List ℕ)
counted zero line = cond (ended line) (Some []) None
counted (suc n) line = and_then (front line) (λ p. option_map (λ ns. p.0 ∷ ns) (counted n p.1))

-- An id, and nothing more.
abbrev pub lone_id : List ℕ → Option (ℕ × ℕ)
lone_id line = cond (ended (after_word line)) (id_in (first_word line)) None
