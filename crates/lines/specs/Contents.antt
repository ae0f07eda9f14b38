use Rattle.std.specs.Prelude.{ℕ, cond, List, length, drop, Some, None, Option, ◌==◌, nat_lt, slice_index}
use Rattle.std.specs.Option.{option_map}
use Rattle.notation.specs.Words.{first_word, after_word}
use Rattle.notation.specs.Numerals.{and_then}
use Rattle.spelling.specs.Wanted.{wanted_in}
use Rattle.lines.specs.Asked.{Asked, make, insert, insert_kept}
use Rattle.lines.specs.Parts.{ended, front}

-- WORD CONTENT
abbrev pub make_in : List ℕ → Option Asked
make_in rest = option_map (make (first_word rest)) (wanted_in (after_word rest))

-- L CLIENT INDEX, and what stands after them.
abbrev pub spot_in : List ℕ → Option (ℕ × ℕ × ℕ × List ℕ)
spot_in line =
    and_then (front line) (λ l. and_then (front l.1) (λ c. option_map (λ i. (l.0, c.0, i.0, i.1)) (front c.1)))

-- A mark and a word that is not empty, and nothing more: the word.
abbrev pub kept_in : List ℕ → Option (List ℕ)
kept_in line =
    cond (ended (after_word line)) (cond (nat_lt 1 (length (first_word line))) (Some (drop 1 (first_word line))) None) None

-- =WORD or CONTENT
abbrev pub inserted_in : ℕ → ℕ → ℕ → List ℕ → Option Asked
inserted_in l c i rest =
    cond (slice_index (first_word rest) 0 == 0x3D) (option_map (insert_kept l c i) (kept_in rest)) (option_map (insert l c i) (wanted_in rest))

abbrev pub insert_in : List ℕ → Option Asked
insert_in rest = and_then (spot_in rest) (λ p. inserted_in p.0 p.1 p.2 p.3)
