-- Blocks of a list marked as removed.
use Rattle.std.specs.Prelude.{◌≡◌, ℕ, ◌<◌, Bool, true, cond, not, ◌&&◌, ◌≢◌, List, [], ◌∷◌, ◌++◌, map, Option, bit_or}
use Rattle.std.specs.List.{AllByRecursion}
use Rattle.content.specs.declared.content.Content.{Ghosts}
use Rattle.table.specs.declared.block.Block.{Block}
use Rattle.table.specs.Cells.{Face, Cell, Holds, front, Apart, cells, Stands, Kept}
use Rattle.table.specs.Lookups.{visible}
use Rattle.marking.specs.Faces.{on_face}

-- The face marked as removed if its content counts, and all else as it was.
abbrev pub struck : {C : Type 0} → Ghosts C → Face C → Face C
struck K f = record { id = f.id; origin = f.origin; right_origin = f.right_origin; removed = cond (K.counts f.content) true f.removed; links = f.links; content = f.content }

-- The same of a cell.
abbrev pub struck_cell : {C : Type 0} → Ghosts C → Cell C → Cell C
struck_cell K c = on_face (struck K) c

-- Whether a face is visible: it is not removed, and its content counts.
abbrev pub in_sight : {C : Type 0} → Ghosts C → Face C → Bool
in_sight K f = K.counts f.content && not f.removed

-- The union of the link sets of the visible ones among the cells.
abbrev pub union : {C : Type 0} → Ghosts C → List (Cell C) → ℕ
union K [] = 0
union K (c ∷ cs) = cond (in_sight K c.face) (bit_or c.face.links (union K cs)) (union K cs)

-- A list stands from start on, and each of its blocks has a unit. Its cells ms have n visible units; with those after them, ys,
-- they begin at the block from.
pub record Strikable {C : Type 0} (K : Ghosts C) (t : List (Block C)) (from : Option ℕ) (n : ℕ) : Type 0 where
  pub list : ℕ
  pub start : Option ℕ
  pub pre : List (Cell C)
  pub ms : List (Cell C)
  pub ys : List (Cell C)
  pub stands : Stands t list start
  pub parts : cells t start ≡ pre ++ (ms ++ ys)
  pub at_hand : front (ms ++ ys) ≡ from
  pub sum : visible K ms ≡ n
  pub filled : AllByRecursion (λ c. 0 < K.size c.face.content) (cells t start)

-- The cells ms are struck: what the list's cells are then, that it stands, that each list of another number keeps its cells and
-- each record that is none of ms's what it holds, and the union of the link sets of those that were visible.
pub record Struck {C : Type 0} (K : Ghosts C) (t : List (Block C)) (from : Option ℕ) (n : ℕ) (w : Strikable K t from n) (u : List (Block C)) (r : ℕ) : Type 0 where
  pub stands : Stands u w.list w.start
  pub now_cells : cells u w.start ≡ w.pre ++ (map (struck_cell K) w.ms ++ w.ys)
  pub others : (m : ℕ) (head : Option ℕ) → w.list ≢ m → Stands t m head → Kept t u m head
  pub elsewhere : (i : ℕ) (b : Block C) → Apart i w.ms → Holds t i b → Holds u i b
  pub links : r ≡ union K w.ms
