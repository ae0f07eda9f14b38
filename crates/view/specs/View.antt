-- What the law sees of the blocks of a table.
use Rattle.std.specs.Prelude.{ℕ, List, [], ◌∷◌, Option}
use Rattle.content.specs.declared.content.Content.{Ghosts}
use Rattle.law.specs.Faces as law
use Rattle.registry.specs.Links.{plain_id}
use Rattle.table.specs.declared.block.Block.{Block}
use Rattle.table.specs.Cells.{Face, Cell}
use Rattle.block_store.specs.Lists.{blocks_of}

-- A block's face with its content told over the words: whether it counts, and its units.
abbrev pub shows : {C : Type 0} → Ghosts C → List ℕ → Face C → law.Face
shows K ws f = record { first = plain_id f.id; removed = f.removed; links = f.links; countable = K.counts f.content; units = K.units ws f.content }

-- The same of each of the cells.
abbrev pub shown : {C : Type 0} → Ghosts C → List ℕ → List (Cell C) → List law.Face
shown K ws [] = []
shown K ws (c ∷ cs) = shows K ws c.face ∷ shown K ws cs

-- The faces of each list, by its number.
unfoldable pub view : {C : Type 0} → Ghosts C → List ℕ → List (Block C) → List (Option ℕ) → ℕ → List law.Face
view K ws t fronts l = shown K ws (blocks_of t fronts l)
