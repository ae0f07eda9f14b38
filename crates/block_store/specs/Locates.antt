-- Where an id stands among the lists, and a cut there.
use Rattle.std.specs.Prelude.{◌≡◌, ℕ, ◌+◌, ◌^◌, ◌<◌, ◌≤◌, List, length, Some, None, Ok, Err, Option, Result, count_ones, nat_lt}
use Rattle.content.specs.declared.content.Content.{Ghosts}
use Rattle.source.specs.declared.id.Id.{Id}
use Rattle.table.specs.declared.block.Block.{Block}
use Rattle.table.specs.Cells.{Cell}
use Rattle.table.specs.Lookups.{Lacks, FoundAt}
use Rattle.block_store.specs.declared.cut.CutRefusal.{CutRefusal}
use Rattle.block_store.specs.declared.cut.CutRefusal.TheVariants.{NeverInserted, TooFewRecords}
use Rattle.block_store.specs.Lists.{blocks_of, Changed}
use Rattle.block_store.specs.Cuts.{one_if, CutBlock, pieces}

-- The first list that has the id has it in the block at i, at offset o.
pub record LocatedAt {C : Type 0} (K : Ghosts C) (id : Id) (t : List (Block C)) (fronts : List (Option ℕ)) (i o : ℕ) : Type 0 where
  pub list : ℕ
  pub known : list < length fronts
  pub found : FoundAt K id (blocks_of t fronts list) i o
  pub before : (m : ℕ) → m < list → Lacks K id (blocks_of t fronts m)

-- No list has the id.
abbrev pub Nowhere : {C : Type 0} → Ghosts C → Id → List (Block C) → List (Option ℕ) → Type 0
Nowhere K id t fronts = (l : ℕ) → Lacks K id (blocks_of t fronts l)

abbrev pub Located : {C : Type 0} → Ghosts C → Id → List (Block C) → List (Option ℕ) → Option (ℕ × ℕ) → Type 0
Located K id t fronts None = Nowhere K id t fronts
Located K id t fronts (Some p) = LocatedAt K id t fronts p.0 p.1

-- How many new blocks it takes to make the unit at offset o the first of a block.
abbrev pub cut_needs : ℕ → ℕ
cut_needs o = one_if (nat_lt 0 o)

-- The block that has the id, as one that is cut before it.
abbrev pub found_cut : {C : Type 0} {K : Ghosts C} {id : Id} {cs : List (Cell C)} {i o : ℕ} → FoundAt K id cs i o → 0 < o → CutBlock K cs
found_cut {C} {K} {id} {cs} {i} {o} w low =
    record { pre = w.pre; place = i; face = w.face; post = w.post; offset = o; parts = w.parts; low = low; high = w.has.inside }

-- A cut before an id: the blocks of its list, and the records then in use. The right piece takes the record `used`.
pub record CutDone {C : Type 0} (K : Ghosts C) (id : Id) (t u : List (Block C)) (fronts : List (Option ℕ)) (used limit n : ℕ) : Type 0 where
  pub place : ℕ
  pub offset : ℕ
  pub at : LocatedAt K id t fronts place offset
  pub enough : used + cut_needs offset ≤ limit
  pub records : n ≡ used + cut_needs offset
  pub unchanged : offset ≡ 0 → u ≡ t
  pub changed : (low : 0 < offset) → Changed t u fronts fronts at.list (pieces used (found_cut at.found low))

-- Too few records are free for it.
pub record CutLacks {C : Type 0} (K : Ghosts C) (id : Id) (t : List (Block C)) (fronts : List (Option ℕ)) (used limit : ℕ) : Type 0 where
  pub place : ℕ
  pub offset : ℕ
  pub at : LocatedAt K id t fronts place offset
  pub too_few : limit < used + cut_needs offset

-- What a cut came to; a refusal leaves the table as it was.
abbrev pub CutIs : {C : Type 0} → Ghosts C → Id → List (Block C) → List (Block C) → List (Option ℕ) → ℕ → ℕ → Result ℕ CutRefusal → Type 0
CutIs K id t u fronts used limit (Ok n) = CutDone K id t u fronts used limit n
CutIs K id t u fronts used limit (Err NeverInserted) = Nowhere K id t fronts × (u ≡ t)
CutIs K id t u fronts used limit (Err TooFewRecords) = CutLacks K id t fronts used limit × (u ≡ t)

-- The records in use after it.
abbrev pub used_after : {E : Type 0} → ℕ → Result ℕ E → ℕ
used_after used (Ok n) = n
used_after used (Err e) = used

-- The ones in the link set of the block that has the id.
pub record Counted {C : Type 0} (K : Ghosts C) (id : Id) (t : List (Block C)) (fronts : List (Option ℕ)) (n : ℕ) : Type 0 where
  pub place : ℕ
  pub offset : ℕ
  pub at : LocatedAt K id t fronts place offset
  pub small : at.found.face.links < 2 ^ 64
  pub count : n ≡ count_ones at.found.face.links

abbrev pub CountIs : {C : Type 0} → Ghosts C → Id → List (Block C) → List (Option ℕ) → Option ℕ → Type 0
CountIs K id t fronts None = Nowhere K id t fronts
CountIs K id t fronts (Some n) = Counted K id t fronts n
