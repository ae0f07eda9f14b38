use Rattle.std.specs.Prelude.{ℕ, List, [], ◌∷◌, ◌++◌, codes, decimal, filter}
use Rattle.std.specs.List.{range_with_len, flat_map}
use Rattle.law.specs.Faces.{bit}

-- The links below n of a link set, in rising order: bit k stands for link k.
unfoldable pub links_below : ℕ → ℕ → List ℕ
links_below n links = filter (λ k. bit k links) (range_with_len 0 n)

-- Numbers, with a comma between two.
abbrev pub listed : List ℕ → List ℕ
listed [] = []
listed (n ∷ ns) = decimal n ++ flat_map (λ m. 0x2C ∷ decimal m) ns

-- A link set of 64 bits, in braces.
abbrev pub set_text : ℕ → List ℕ
set_text links = codes "{" ++ (listed (links_below 64 links) ++ codes "}")
