-- A link taken out of the sets of blocks.
use Rattle.std.specs.Prelude.{◌≡◌, ℕ, ◌-◌, ◌^◌, ◌<◌, List, ◌++◌, map, take, drop, Option, bit_and}
use Rattle.std.specs.List.{AllByRecursion}
use Rattle.table.specs.declared.block.Block.{Block}
use Rattle.table.specs.Cells.{Face, Cell, cell, block, face_of, cells, Stands}

-- The face with the link n not in its set, and all else as it was.
abbrev pub without : {C : Type 0} → ℕ → Face C → Face C
without n f = record { id = f.id; origin = f.origin; right_origin = f.right_origin; removed = f.removed; links = bit_and f.links (2 ^ 64 - 1 - 2 ^ n); content = f.content }

-- The same of a block, which keeps its list and its neighbours.
abbrev pub cleared : {C : Type 0} → ℕ → Block C → Block C
cleared n b = block b.list b.left b.right (without n (face_of b))

-- The same of a cell.
abbrev pub cleared_cell : {C : Type 0} → ℕ → Cell C → Cell C
cleared_cell n c = cell c.at (without n c.face)

-- The link n is taken out of the sets of the first `used` records, and nothing else is changed: what the whole table is,
-- and what the cells are of each list that lies in these records.
pub record Cleared {C : Type 0} (t : List (Block C)) (used n : ℕ) (u : List (Block C)) : Type 0 where
  pub table : u ≡ map (cleared n) (take used t) ++ drop used t
  pub lists : (l : ℕ) (start : Option ℕ) → Stands t l start → AllByRecursion (λ c. c.at < used) (cells t start) → Stands u l start
  pub now_cells : (l : ℕ) (start : Option ℕ) → Stands t l start → AllByRecursion (λ c. c.at < used) (cells t start) → cells u start ≡ map (cleared_cell n) (cells t start)
