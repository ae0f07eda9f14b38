use Rattle.std.specs.Prelude.{ℕ, List, ◌++◌, codes, decimal}
use Rattle.spelling.specs.Sides.{id_text}
use Rattle.replies.specs.Sets.{set_text}

-- What answers an accepted call; an id is its client and its clock.
abbrev pub list_text : ℕ → List ℕ
list_text l = codes "list " ++ decimal l

abbrev pub inserted_text : ℕ × ℕ → ℕ → List ℕ
inserted_text i links = codes "inserted " ++ (id_text i.0 i.1 ++ (codes " links " ++ set_text links))

abbrev pub removed_text : ℕ → ℕ → List ℕ
removed_text n links = codes "removed " ++ (decimal n ++ (codes " links " ++ set_text links))

abbrev pub links_text : ℕ → List ℕ
links_text n = codes "links " ++ decimal n
