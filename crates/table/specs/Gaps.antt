-- What stands beside a gap of a list.
use Rattle.std.specs.Prelude.{◌≡◌, ℕ, ◌+◌, ◌-◌, ◌^◌, ◌<◌, ◌≤◌, List, [], ◌∷◌, ◌++◌, Some, None, Option}
use Rattle.std.specs.List.{AllByRecursion}
use Rattle.source.specs.declared.id.Id.{Id}
use Rattle.content.specs.declared.content.Content.{Ghosts}
use Rattle.table.specs.declared.block.Block.{Block}
use Rattle.table.specs.declared.gap.LeftEdge.{LeftEdge}
use Rattle.table.specs.declared.gap.RightEdge.{RightEdge}
use Rattle.table.specs.Cells.{Face, Cell, front, last, cells, Stands}
use Rattle.table.specs.Cuts.{later}

-- A face has a unit, and its ids pass no last clock.
pub record Numbered {C : Type 0} (K : Ghosts C) (f : Face C) : Type 0 where
  pub some : 0 < K.size f.content
  pub ids : f.id.clock + K.size f.content ≤ 2 ^ 32

-- A list stands from start on, with a gap after the block left, or at the front if that is none.
pub record Gap {C : Type 0} (K : Ghosts C) (t : List (Block C)) (start left : Option ℕ) : Type 0 where
  pub list : ℕ
  pub pre : List (Cell C)
  pub post : List (Cell C)
  pub stands : Stands t list start
  pub parts : cells t start ≡ pre ++ post
  pub ends : last None pre ≡ left
  pub numbered : AllByRecursion (λ c. Numbered K c.face) (cells t start)

-- The last id of the cells.
abbrev pub last_id : {C : Type 0} → Ghosts C → List (Cell C) → Option Id
last_id K [] = None
last_id K (c ∷ []) = Some (later c.face.id (K.size c.face.content - 1))
last_id K (c ∷ d ∷ cs) = last_id K (d ∷ cs)

-- The link set of the last of the cells, the empty one if there are none.
abbrev pub last_links : {C : Type 0} → List (Cell C) → ℕ
last_links [] = 0
last_links (c ∷ []) = c.face.links
last_links (c ∷ d ∷ cs) = last_links (d ∷ cs)

-- The first id of the cells.
abbrev pub first_id : {C : Type 0} → List (Cell C) → Option Id
first_id [] = None
first_id (c ∷ cs) = Some c.face.id

-- The link set of the first of the cells, the empty one if there are none.
abbrev pub first_links : {C : Type 0} → List (Cell C) → ℕ
first_links [] = 0
first_links (c ∷ cs) = c.face.links

-- What is told of the gap between the cells pre and post, from its left side.
pub record LeftIs {C : Type 0} (K : Ghosts C) (pre post : List (Cell C)) (r : LeftEdge) : Type 0 where
  pub id : r.last ≡ last_id K pre
  pub set : r.links ≡ last_links pre
  pub right : r.right ≡ front post

-- What is told of the cells right of a gap.
pub record RightIs {C : Type 0} (post : List (Cell C)) (r : RightEdge) : Type 0 where
  pub id : r.first ≡ first_id post
  pub set : r.links ≡ first_links post
