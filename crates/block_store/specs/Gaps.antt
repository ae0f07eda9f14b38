-- The gap directly after so many visible units of a list.
use Rattle.std.specs.Prelude.{◌≡◌, ℕ, ◌+◌, ◌-◌, ◌<◌, ◌≤◌, Bool, true, false, ◌&&◌, ◌||◌, List, [], ◌∷◌, ◌++◌, length, Some, None, Option, nat_lt}
use Rattle.content.specs.declared.content.Content.{Ghosts}
use Rattle.table.specs.declared.block.Block.{Block}
use Rattle.table.specs.declared.lookup.Place.{Place}
use Rattle.table.specs.declared.lookup.Place.TheVariants.{Front, After, Past}
use Rattle.table.specs.Cells.{Cell, last}
use Rattle.table.specs.Lookups.{shown, visible, Sought}
use Rattle.block_store.specs.declared.gap.Gap.{Gap}
use Rattle.block_store.specs.Lists.{blocks_of, Shape, Changed}
use Rattle.block_store.specs.Cuts.{one_if, CutBlock, pieces}

-- Whether the gap directly after i visible units lies inside a block.
abbrev pub inside : {C : Type 0} → Ghosts C → ℕ → List (Cell C) → Bool
inside K i [] = false
inside K i (c ∷ cs) = (nat_lt 0 i && nat_lt i (shown K c.face)) || inside K (i - shown K c.face) cs

-- How many new blocks it takes that one begins there.
abbrev pub gap_needs : {C : Type 0} → Ghosts C → ℕ → List (Cell C) → ℕ
gap_needs K i cs = one_if (inside K i cs)

-- The last of the cells is visible, if there are any.
abbrev pub EndsShown : {C : Type 0} → Ghosts C → List (Cell C) → Type 0
EndsShown K [] = Unit {0}
EndsShown K (c ∷ []) = (c.face.removed ≡ false) × (K.counts c.face.content ≡ true)
EndsShown K (c ∷ d ∷ cs) = EndsShown K (d ∷ cs)

-- The cells are pre and post on the two sides of the gap directly after i visible units, once a block that the gap lies inside
-- is cut there, its right piece in the record j. Hidden blocks that follow stand in post.
pub record Gapped {C : Type 0} (K : Ghosts C) (i j : ℕ) (cs pre post : List (Cell C)) : Type 0 where
  pub whole : inside K i cs ≡ false → cs ≡ pre ++ post
  pub cut : inside K i cs ≡ true → (c : CutBlock K cs) × (pieces j c ≡ pre ++ post) × (visible K c.pre + c.offset ≡ i)
  pub before : visible K pre ≡ i
  pub ends : EndsShown K pre

-- The record left of a place.
abbrev pub left_of : Place → Option ℕ
left_of Front = None
left_of (After i o) = Some i
left_of Past = None

-- Where the gap is found, and how many new blocks it takes.
pub record GapIs {C : Type 0} (K : Ghosts C) (i : ℕ) (cs : List (Cell C)) (g : Gap) : Type 0 where
  pub sought : Sought K i cs g.place
  pub needs : g.needs ≡ gap_needs K i cs

-- A gap of list l that there is, with records enough to open it.
pub record Openable {C : Type 0} (K : Ghosts C) (t : List (Block C)) (fronts : List (Option ℕ)) (used l i : ℕ) (g : Gap) : Type 0 where
  pub words : ℕ
  pub shape : Shape K words t used fronts
  pub known : l < length fronts
  pub gap : GapIs K i (blocks_of t fronts l) g
  pub within : i ≤ visible K (blocks_of t fronts l)
  pub room : used + g.needs ≤ length t

-- A gap of some list that there is, with records enough to open it.
pub record Closed {C : Type 0} (K : Ghosts C) (t : List (Block C)) (used : ℕ) (g : Gap) : Type 0 where
  pub fronts : List (Option ℕ)
  pub list : ℕ
  pub index : ℕ
  pub openable : Openable K t fronts used list index g

-- The gap is open: what the list's blocks are then on its two sides, and which record is left of it.
pub record Opened {C : Type 0} (K : Ghosts C) (t u : List (Block C)) (fronts : List (Option ℕ)) (used l i : ℕ) (g : Gap) (n : ℕ) : Type 0 where
  pub pre : List (Cell C)
  pub post : List (Cell C)
  pub gapped : Gapped K i used (blocks_of t fronts l) pre post
  pub changed : Changed t u fronts fronts l (pre ++ post)
  pub left : last None pre ≡ left_of g.place
  pub records : n ≡ used + gap_needs K i (blocks_of t fronts l)
