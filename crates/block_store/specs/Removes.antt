-- A removal of visible units of a list.
use Rattle.std.specs.Prelude.{◌≡◌, ℕ, ◌+◌, ◌^◌, ◌<◌, ◌≤◌, List, ◌++◌, map, length, Some, None, Option}
use Rattle.content.specs.declared.content.Content.{Ghosts}
use Rattle.marking.specs.Strikes.{struck_cell, union}
use Rattle.table.specs.declared.block.Block.{Block}
use Rattle.table.specs.Cells.{Cell}
use Rattle.table.specs.Lookups.{visible}
use Rattle.block_store.specs.declared.branch.Outcome.{Outcome}
use Rattle.block_store.specs.Lists.{blocks_of, Shape, Changed}
use Rattle.block_store.specs.Gaps.{gap_needs, Gapped}

-- How many new blocks a removal of n visible units from i on takes: one where it ends inside a block, one where it begins inside one.
abbrev pub remove_needs : {C : Type 0} → Ghosts C → ℕ → ℕ → List (Cell C) → ℕ
remove_needs K i n cs = gap_needs K (i + n) cs + gap_needs K i cs

-- What a removal of n units, at least one and no more than there are, relies on.
pub record Removable {C : Type 0} (K : Ghosts C) (t : List (Block C)) (fronts : List (Option ℕ)) (used limit l i n : ℕ) : Type 0 where
  pub words : ℕ
  pub shape : Shape K words t used fronts
  pub known : l < length fronts
  pub some : 0 < n
  pub within : i + n ≤ visible K (blocks_of t fronts l)
  pub small : i + n < 2 ^ 32
  pub fits : limit ≤ length t
  pub enough : used ≤ limit

-- The list's blocks are cut after the last unit and before the first, where these fall inside blocks; ms are then the blocks of just
-- the n units, and hidden ones between. Those of ms that count are marked, and the answer is the union of the link sets of the
-- ones that were visible.
pub record RemoveDone {C : Type 0} (K : Ghosts C) (t u : List (Block C)) (fronts : List (Option ℕ)) (used limit l i n : ℕ) (o : Outcome) : Type 0 where
  pub upto : List (Cell C)
  pub rest : List (Cell C)
  pub after_last : Gapped K (i + n) used (blocks_of t fronts l) upto rest
  pub pre : List (Cell C)
  pub ms : List (Cell C)
  pub ys : List (Cell C)
  pub before_first : Gapped K i (used + gap_needs K (i + n) (blocks_of t fronts l)) (upto ++ rest) pre (ms ++ ys)
  pub sum : visible K ms ≡ n
  pub changed : Changed t u fronts fronts l (pre ++ (map (struck_cell K) ms ++ ys))
  pub links : o.links ≡ union K ms
  pub records : o.used ≡ used + remove_needs K i n (blocks_of t fronts l)
  pub enough : o.used ≤ limit

-- What a removal came to: none if too few records are free, and then nothing has changed.
abbrev pub RemoveIs : {C : Type 0} → Ghosts C → List (Block C) → List (Block C) → List (Option ℕ) → ℕ → ℕ → ℕ → ℕ → ℕ → Option Outcome → Type 0
RemoveIs K t u fronts used limit l i n None = (limit < used + remove_needs K i n (blocks_of t fronts l)) × (u ≡ t)
RemoveIs K t u fronts used limit l i n (Some o) = RemoveDone K t u fronts used limit l i n o
