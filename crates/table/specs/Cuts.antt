-- A block cut in two.
use Rattle.std.specs.Prelude.{◌≡◌, ℕ, ◌+◌, ◌-◌, ◌^◌, ◌<◌, ◌≤◌, ◌≢◌, List, [], ◌∷◌, ◌++◌, length, Some, None, Option, slice_set}
use Rattle.source.specs.declared.id.Id.{Id}
use Rattle.content.specs.declared.content.Content.{Ghosts}
use Rattle.table.specs.declared.block.Block.{Block}
use Rattle.table.specs.Cells.{Face, Cell, cell, block, front, last, Apart, cells, Stands, Kept}

-- The id k clocks after another, of the same client.
abbrev pub later : Id → ℕ → Id
later i k = record { client = i.client; clock = i.clock + k }

-- The left piece of a face cut at k: all but the later units is as it was.
abbrev pub left_piece : {C : Type 0} → Ghosts C → ℕ → Face C → Face C
left_piece K k f = record { id = f.id; origin = f.origin; right_origin = f.right_origin; removed = f.removed; links = f.links; content = K.fore k f.content }

-- The right piece: the later ids and units, the id before it as origin, and the rest as it was.
abbrev pub right_piece : {C : Type 0} → Ghosts C → ℕ → Face C → Face C
right_piece K k f = record { id = later f.id k; origin = Some (later f.id (k - 1)); right_origin = f.right_origin; removed = f.removed; links = f.links; content = K.rear k f.content }

-- The table with the first of the cells, if any, told that p stands before it.
abbrev pub relinked : {C : Type 0} → List (Block C) → ℕ → Option ℕ → List (Cell C) → List (Block C)
relinked t l p [] = t
relinked t l p (c ∷ cs) = slice_set t c.at (block l p (front cs) c.face)

-- The table with f at i and, after it, g at the free record j; p stands before i, and the cells post after it.
abbrev pub put_after : {C : Type 0} → List (Block C) → ℕ → ℕ → ℕ → Option ℕ → Face C → Face C → List (Cell C) → List (Block C)
put_after t l i j p f g post = relinked (slice_set (slice_set t j (block l (Some i) (front post) g)) i (block l p (Some j) f)) l (Some j) post

-- The block at i stands in a list, has units on both sides of the offset k, and its ids pass no last clock;
-- the record j is free for its right piece.
pub record Cuttable {C : Type 0} (K : Ghosts C) (t : List (Block C)) (i k j : ℕ) : Type 0 where
  pub list : ℕ
  pub start : Option ℕ
  pub pre : List (Cell C)
  pub face : Face C
  pub post : List (Cell C)
  pub stands : Stands t list start
  pub parts : cells t start ≡ pre ++ cell i face ∷ post
  pub room : j < length t
  pub free : Apart j (cells t start)
  pub some_left : 0 < k
  pub some_right : k < K.size face.content
  pub ids : face.id.clock + K.size face.content ≤ 2 ^ 32

-- The block at i is cut at k, with its right piece at j: what the list's cells are then, that it stands, what the whole
-- table is, and that each list of another number that does not have the record j keeps its cells.
pub record Cut {C : Type 0} (K : Ghosts C) (t : List (Block C)) (i k j : ℕ) (w : Cuttable K t i k j) (u : List (Block C)) : Type 0 where
  pub table : u ≡ put_after t w.list i j (last None w.pre) (left_piece K k w.face) (right_piece K k w.face) w.post
  pub stands : Stands u w.list w.start
  pub now_cells : cells u w.start ≡ w.pre ++ cell i (left_piece K k w.face) ∷ cell j (right_piece K k w.face) ∷ w.post
  pub others : (m : ℕ) (head : Option ℕ) → w.list ≢ m → Stands t m head → Apart j (cells t head) → Kept t u m head
