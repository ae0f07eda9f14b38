use Rattle.std.specs.Prelude.{ℕ, min, true, false, cond, ◌&&◌, List, [], ◌∷◌, ◌++◌, length, take, drop, replicate, Some, None, codes, decimal, Option, nat_lt}
use Rattle.std.specs.List.{flat_map}
use Rattle.making.specs.Recipes.{Recipe, judged}
use Rattle.making.specs.Packed.{packed, surrogates}
use Rattle.spelling.specs.Wanted.{Want, clips, text, mark, gap}
use Rattle.replies.specs.Refusals.{refusal_text}

-- The recipe for what is wanted. A gap's length beyond 32 bits stands for the largest that they hold: both are refused.
abbrev pub asked : Want → Recipe
asked (clips us) = record { counts = true; units = us; faulty = false; spent = λ _. us }
asked (text us) = record { counts = true; units = us; faulty = surrogates us; spent = λ _. packed us }
asked (mark u) = record { counts = false; units = u ∷ []; faulty = false; spent = λ _. [] }
asked (gap n) = record { counts = false; units = replicate (min n 0xFFFF_FFFF) 0; faulty = false; spent = λ _. [] }

-- Units as text, a blank before each.
abbrev pub units_text : List ℕ → List ℕ
units_text us = flat_map (λ u. 0x20 ∷ decimal u) us

-- The first k units, and the others.
abbrev pub halves_text : ℕ → List ℕ → List ℕ
halves_text k us = codes "pieces" ++ (units_text (take k us) ++ (codes " |" ++ units_text (drop k us)))

-- An offset at which nothing can be cut is refused 10.
abbrev pub cut_text : ℕ → List ℕ → List ℕ
cut_text k us = cond (nat_lt 0 k && nat_lt k (length us)) (halves_text k us) (refusal_text 10)

abbrev pub made_text : ℕ → Recipe → Option ℕ → List ℕ
made_text k r None = cut_text k r.units
made_text k r (Some n) = refusal_text n

-- A table of 65,536 free words.
unfoldable pub free_table : List ℕ
free_table = replicate 65536 0

-- What a recipe makes in such a table, cut at k.
abbrev pub pieces_text : Recipe → ℕ → List ℕ
pieces_text r k = made_text k r (judged r free_table 0)
