use Rattle.std.specs.Prelude.{ℕ, Bool, cond, List, [], ◌++◌, Some, None, codes, decimal, Option}
use Rattle.spelling.specs.Sides.{id_text}
use Rattle.replies.specs.Sets.{set_text}

abbrev pub mark_text : Bool → List ℕ
mark_text removed = cond removed (codes "x") []

-- A blank and FIRST+LENGTH, x where it is removed, and the link set.
abbrev pub block_text : ℕ × ℕ → ℕ → Bool → ℕ → List ℕ
block_text i n removed links = codes " " ++ (id_text i.0 i.1 ++ (codes "+" ++ (decimal n ++ (mark_text removed ++ set_text links))))

-- An id, or a dot for none.
abbrev pub anchor_text : Option (ℕ × ℕ) → List ℕ
anchor_text None = codes "."
anchor_text (Some i) = id_text i.0 i.1

-- A blank and FIRST<ORIGIN>RIGHT.
abbrev pub origin_text : ℕ × ℕ → Option (ℕ × ℕ) → Option (ℕ × ℕ) → List ℕ
origin_text i origin right = codes " " ++ (id_text i.0 i.1 ++ (codes "<" ++ (anchor_text origin ++ (codes ">" ++ anchor_text right))))
