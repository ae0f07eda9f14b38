-- A new block in a list.
use Rattle.std.specs.Prelude.{◌≡◌, ℕ, ◌+◌, ◌^◌, ◌<◌, ◌≤◌, false, ◌&&◌, ◌||◌, List, ◌∷◌, ◌++◌, length, Some, None, Option, ◌≢◌}
use Rattle.std.specs.Option.{option_map}
use Rattle.std.specs.List.{AllByRecursion}
use Rattle.content.specs.declared.content.Content.{Ghosts}
use Rattle.source.specs.declared.id.Id.{Id}
use Rattle.law.specs.Faces.{bit}
use Rattle.law.specs.Joins.{starts_here, ends_here}
use Rattle.registry.specs.declared.links.Links.{Links}
use Rattle.registry.specs.Links.{plain_id, link_in}
use Rattle.table.specs.declared.block.Block.{Block}
use Rattle.table.specs.Cells.{Face, Cell, cell, last, Apart, cells, Stands, Kept}
use Rattle.table.specs.Gaps.{Numbered, last_id, last_links, first_id, first_links}
use Rattle.table.specs.Lookups.{visible}
use Rattle.block_store.specs.declared.branch.Outcome.{Outcome}
use Rattle.block_store.specs.Lists.{blocks_of, Shape, Changed}
use Rattle.block_store.specs.Gaps.{gap_needs, Gapped}

-- The block of a new content between the blocks pre and post: its origin is the last id left of it, its right origin the first
-- id right of it.
abbrev pub new_face : {C : Type 0} → Ghosts C → List (Cell C) → List (Cell C) → Id → ℕ → C → Face C
new_face K pre post id links x = record { id = id; origin = last_id K pre; right_origin = first_id post; removed = false; links = links; content = x }

-- The link set w by the join rule, bit by bit: a link holds the left neighbour or starts right here, and holds the right one or
-- ends right here.
abbrev pub Joins : {C : Type 0} → Ghosts C → Links → ℕ → List (Cell C) → List (Cell C) → ℕ → Type 0
Joins K links l pre post w = (n : ℕ)
    → bit n w ≡ ((bit n (last_links pre) || starts_here (link_in links n) l (option_map plain_id (last_id K pre)))
    && (bit n (first_links post) || ends_here (link_in links n) l (option_map plain_id (first_id post))))

-- List l stands from start on, with a gap after the block left, or at the front if that is none; the record j is free.
pub record Puttable {C : Type 0} (K : Ghosts C) (t : List (Block C)) (l : ℕ) (start left : Option ℕ) (j : ℕ) : Type 0 where
  pub pre : List (Cell C)
  pub post : List (Cell C)
  pub stands : Stands t l start
  pub parts : cells t start ≡ pre ++ post
  pub ends : last None pre ≡ left
  pub numbered : AllByRecursion (λ c. Numbered K c.face) (cells t start)
  pub room : j < length t
  pub free : Apart j (cells t start)

-- A new block is put there, at j.
pub record NewBlock {C : Type 0} (K : Ghosts C) (links : Links) (t u : List (Block C)) (l : ℕ) (begin : Option ℕ) (j : ℕ) (id : Id) (x : C) (pre post : List (Cell C)) (w : ℕ) : Type 0 where
  pub joins : Joins K links l pre post w
  pub stands : Stands u l begin
  pub now_cells : cells u begin ≡ pre ++ cell j (new_face K pre post id w x) ∷ post
  pub others : (m : ℕ) (head : Option ℕ) → (l ≢ m) → Stands t m head → Apart j (cells t head) → Kept t u m head

-- How many new blocks an insertion at the visible index i takes.
abbrev pub insert_needs : {C : Type 0} → Ghosts C → ℕ → List (Cell C) → ℕ
insert_needs K i cs = gap_needs K i cs + 1

-- What an insertion into list l relies on.
pub record Insertable {C : Type 0} (K : Ghosts C) (t : List (Block C)) (fronts : List (Option ℕ)) (used limit l i : ℕ) (id : Id) (x : C) : Type 0 where
  pub words : ℕ
  pub shape : Shape K words t used fronts
  pub known : l < length fronts
  pub within : i ≤ visible K (blocks_of t fronts l)
  pub fits : limit ≤ length t
  pub enough : used ≤ limit
  pub some : 0 < K.size x
  pub ids : id.clock + K.size x ≤ 2 ^ 32

-- The new block stands in the gap of i; it takes the first record that is free once a block that the gap lay inside is cut.
pub record InsertDone {C : Type 0} (K : Ghosts C) (links : Links) (t u : List (Block C)) (fronts now-fronts : List (Option ℕ)) (used limit l i : ℕ) (id : Id) (x : C) (o : Outcome) : Type 0 where
  pub pre : List (Cell C)
  pub post : List (Cell C)
  pub gapped : Gapped K i used (blocks_of t fronts l) pre post
  pub joins : Joins K links l pre post o.links
  pub changed : Changed t u fronts now-fronts l (pre ++ cell (used + gap_needs K i (blocks_of t fronts l)) (new_face K pre post id o.links x) ∷ post)
  pub records : o.used ≡ used + insert_needs K i (blocks_of t fronts l)
  pub enough : o.used ≤ limit

-- What an insertion came to: none if too few records are free, and then nothing has changed.
abbrev pub InsertIs : {C : Type 0} → Ghosts C → Links → List (Block C) → List (Block C) → List (Option ℕ) → List (Option ℕ) → ℕ → ℕ → ℕ → ℕ → Id → C → Option Outcome → Type 0
InsertIs K links t u fronts now-fronts used limit l i id x None = (limit < used + insert_needs K i (blocks_of t fronts l)) × (u ≡ t) × (now-fronts ≡ fronts)
InsertIs K links t u fronts now-fronts used limit l i id x (Some o) = InsertDone K links t u fronts now-fronts used limit l i id x o

-- The records in use after a call.
abbrev pub in_use : ℕ → Option Outcome → ℕ
in_use used None = used
in_use used (Some o) = o.used
