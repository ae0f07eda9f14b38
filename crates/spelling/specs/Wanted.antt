use Rattle.std.specs.Prelude.{ℕ, cond, List, [], ◌∷◌, Some, None, vec_items, codes, Option}
use Rattle.std.specs.Str.{bytes_eq}
use Rattle.notation.specs.Words.{first_word, after_word}
use Rattle.notation.specs.Numerals.{and_then, numbers_in, all_short}
use Rattle.spelling.specs.declared.wanted.Wanted.{Wanted}
use Rattle.spelling.specs.declared.wanted.Wanted.TheVariants.{Clips, Text, Mark, Gap}

-- A content that a line wants made: clip units, 16-bit text units, the unit of a mark, or the length of a gap.
pub data Want : Type 0 where
  clips : List ℕ → Want
  text : List ℕ → Want
  mark : ℕ → Want
  gap : ℕ → Want

abbrev pub wants : Wanted → Want
wants (Clips v) = clips (vec_items v)
wants (Text v) = text (vec_items v)
wants (Mark u) = mark u
wants (Gap n) = gap n

-- Just one number.
abbrev pub lone : (ℕ → Want) → List ℕ → Option Want
lone f [] = None
lone f (n ∷ []) = Some (f n)
lone f (n ∷ m ∷ ns) = None

-- What a name wants with these numbers. A text unit has 16 bits; a mark and a gap take one number.
abbrev pub wanted_by : List ℕ → List ℕ → Option Want
wanted_by w ns =
    cond (bytes_eq w (codes "clips")) (Some (clips ns))
    (cond (bytes_eq w (codes "text")) (cond (all_short ns) (Some (text ns)) None)
    (cond (bytes_eq w (codes "mark")) (lone mark ns)
    (cond (bytes_eq w (codes "gap")) (lone gap ns) None)))

abbrev pub wanted_in : List ℕ → Option Want
wanted_in line = and_then (numbers_in (after_word line)) (wanted_by (first_word line))
