-- What is left of a list.
use Rattle.std.specs.Prelude.{◌≡◌, ℕ, List, Option}
use denote.Ref.{Bor}
use Rattle.table.specs.declared.block.Block.{Block}
use Rattle.table.specs.Cells.{Cell, cell, face_of, front, Path, cells}

-- From a place on stands the end of some list, after the block before.
pub record Leads {C : Type 0} (t : List (Block C)) (next : Option ℕ) : Type 0 where
  pub list : ℕ
  pub before : Option ℕ
  pub path : Path t list before (cells t next)
  pub starts : front (cells t next) ≡ next

-- A record's place and the block in it, as a cell.
abbrev pub cell_of : {C : Type 0} → ℕ × Bor (Block C) → Cell C
cell_of p = cell p.0 (face_of p.1.now)
