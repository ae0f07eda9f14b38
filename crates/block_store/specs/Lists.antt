-- Several lists in one table, each by its front.
use Rattle.std.specs.Prelude.{◌≡◌, ℕ, zero, suc, ◌+◌, ◌<◌, ◌≤◌, ◌≢◌, List, length, None, Option, slice_index_or}
use Rattle.std.specs.List.{AllByRecursion}
use Rattle.content.specs.declared.content.Content.{Ghosts}
use Rattle.table.specs.declared.block.Block.{Block}
use Rattle.table.specs.Cells.{Cell, cells, Stands, Kept}
use Rattle.table.specs.Gaps.{Numbered}

-- Where list l begins, and its blocks in sequence.
abbrev pub front_of : List (Option ℕ) → ℕ → Option ℕ
front_of fronts l = slice_index_or fronts l None

abbrev pub blocks_of : {C : Type 0} → List (Block C) → List (Option ℕ) → ℕ → List (Cell C)
blocks_of t fronts l = cells t (front_of fronts l)

-- Each list stands in the table.
abbrev pub Stand : {C : Type 0} → List (Block C) → List (Option ℕ) → Type 0
Stand t fronts = (l : ℕ) → Stands t l (front_of fronts l)

-- A block has a unit, its ids pass no last clock, and its content fits n words.
pub record Good {C : Type 0} (K : Ghosts C) (n : ℕ) (c : Cell C) : Type 0 where
  pub numbered : Numbered K c.face
  pub fits : K.reach c.face.content ≤ n

-- The sum of what f gives for the numbers below n.
abbrev pub total : (ℕ → ℕ) → ℕ → ℕ
total f zero = 0
total f (suc k) = f k + total f k

-- The shape of the lists: each stands in the table, in the first `used` records and in no others, and these are as many as
-- there are blocks in all; so a record from `used` on is free. No block is empty, and contents fit n words.
pub record Shape {C : Type 0} (K : Ghosts C) (n : ℕ) (t : List (Block C)) (used : ℕ) (fronts : List (Option ℕ)) : Type 0 where
  pub stands : Stand t fronts
  pub low : (l : ℕ) → AllByRecursion (λ c. c.at < used) (blocks_of t fronts l)
  pub good : (l : ℕ) → AllByRecursion (Good K n) (blocks_of t fronts l)
  pub room : used ≤ length t
  pub count : total (λ l. length (blocks_of t fronts l)) (length fronts) ≡ used

-- The same over some number of words.
pub record Shaped {C : Type 0} (K : Ghosts C) (t : List (Block C)) (used : ℕ) (fronts : List (Option ℕ)) : Type 0 where
  pub words : ℕ
  pub shape : Shape K words t used fronts

-- List l has become the blocks cs, and every other list is as it was.
pub record Changed {C : Type 0} (t u : List (Block C)) (fronts now-fronts : List (Option ℕ)) (l : ℕ) (cs : List (Cell C)) : Type 0 where
  pub stands : Stands u l (front_of now-fronts l)
  pub is : blocks_of u now-fronts l ≡ cs
  pub others : (m : ℕ) → l ≢ m → Kept t u m (front_of fronts m)
  pub fronts_same : (m : ℕ) → l ≢ m → front_of now-fronts m ≡ front_of fronts m
  pub fronts_many : length now-fronts ≡ length fronts
