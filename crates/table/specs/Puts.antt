-- A block put into a list.
use Rattle.std.specs.Prelude.{◌≡◌, ℕ, ◌<◌, ◌≢◌, List, [], ◌∷◌, ◌++◌, length, Some, None, Option, slice_set}
use Rattle.table.specs.declared.block.Block.{Block}
use Rattle.table.specs.Cells.{Face, Cell, cell, block, front, last, Path, Apart, cells, Stands, Kept}
use Rattle.table.specs.Cuts.{relinked}

-- The place n, if any, is one of the table's.
abbrev pub Within : {X : Type 0} → List X → Option ℕ → Type 0
Within t None = Unit {0}
Within t (Some n) = n < length t

-- Of each run of cells that begins at n and ends its list, the first is told that p stands before it.
abbrev pub Relinks : {C : Type 0} → List (Block C) → Option ℕ → ℕ → List (Block C) → Type 0
Relinks {C} t n p u = (l : ℕ) (q : Option ℕ) (cs : List (Cell C)) → Path t l q cs → front cs ≡ n → u ≡ relinked t l (Some p) cs

-- The table with the last of the cells, if any, told that n stands after it; p stands before the first.
abbrev pub told : {C : Type 0} → List (Block C) → ℕ → Option ℕ → List (Cell C) → Option ℕ → List (Block C)
told t l p [] n = t
told t l p (c ∷ []) n = slice_set t c.at (block l p n c.face)
told t l p (c ∷ d ∷ cs) n = told t l (Some c.at) (d ∷ cs) n

-- The table with f put at the free record j between the cells pre and post.
abbrev pub put_between : {C : Type 0} → List (Block C) → ℕ → ℕ → List (Cell C) → Face C → List (Cell C) → List (Block C)
put_between t l j pre f post = relinked (told (slice_set t j (block l (last None pre) (front post) f)) l None pre (Some j)) l (Some j) post

-- List l stands from start on, with a gap after the block left, or at the front if that is none; the record j is free.
pub record Spliceable {C : Type 0} (t : List (Block C)) (l : ℕ) (start left : Option ℕ) (j : ℕ) : Type 0 where
  pub pre : List (Cell C)
  pub post : List (Cell C)
  pub stands : Stands t l start
  pub parts : cells t start ≡ pre ++ post
  pub ends : last None pre ≡ left
  pub room : j < length t
  pub free : Apart j (cells t start)

-- The face f is put into that gap, at j: what the list's cells and its front are then, that it stands, what the whole
-- table is, and that each list of another number that does not have the record j keeps its cells.
pub record Put {C : Type 0} (t : List (Block C)) (l : ℕ) (start left : Option ℕ) (j : ℕ) (f : Face C) (w : Spliceable t l start left j) (u : List (Block C)) (begin : Option ℕ) : Type 0 where
  pub table : u ≡ put_between t l j w.pre f w.post
  pub begins : begin ≡ front (w.pre ++ cell j f ∷ w.post)
  pub stands : Stands u l begin
  pub now_cells : cells u begin ≡ w.pre ++ cell j f ∷ w.post
  pub others : (m : ℕ) (head : Option ℕ) → l ≢ m → Stands t m head → Apart j (cells t head) → Kept t u m head
