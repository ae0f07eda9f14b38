-- Where an id and a visible index are found in a list.
use Rattle.std.specs.Prelude.{◌≡◌, ℕ, ◌+◌, ◌<◌, ◌≤◌, true, false, cond, List, [], ◌∷◌, ◌++◌, Some, None, Option}
use Rattle.std.specs.List.{AllByRecursion}
use Rattle.source.specs.declared.id.Id.{Id}
use Rattle.content.specs.declared.content.Content.{Ghosts}
use Rattle.table.specs.declared.block.Block.{Block}
use Rattle.table.specs.declared.lookup.Place.{Place}
use Rattle.table.specs.declared.lookup.Place.TheVariants.{Front, After, Past}
use Rattle.table.specs.Cells.{Face, Cell, cell, Stands}

-- Some list stands in the table from start on.
pub record Listed {C : Type 0} (t : List (Block C)) (start : Option ℕ) : Type 0 where
  pub list : ℕ
  pub stands : Stands t list start

-- The id is that of the face's unit at offset o.
pub record Has {C : Type 0} (K : Ghosts C) (id : Id) (f : Face C) (o : ℕ) : Type 0 where
  pub client : f.id.client ≡ id.client
  pub clock : f.id.clock + o ≡ id.clock
  pub inside : o < K.size f.content

-- At which offset the face has the id, if it does.
abbrev pub HasAt : {C : Type 0} → Ghosts C → Id → Face C → Option ℕ → Type 0
HasAt K id f None = (o : ℕ) → Has K id f o → ⊥
HasAt K id f (Some o) = Has K id f o

-- The id is that of no unit of the cells.
abbrev pub Lacks : {C : Type 0} → Ghosts C → Id → List (Cell C) → Type 0
Lacks K id cs = AllByRecursion (λ c. (o : ℕ) → Has K id c.face o → ⊥) cs

-- The first of the cells that has the id is at i, and has it at offset o.
pub record FoundAt {C : Type 0} (K : Ghosts C) (id : Id) (cs : List (Cell C)) (i o : ℕ) : Type 0 where
  pub pre : List (Cell C)
  pub face : Face C
  pub post : List (Cell C)
  pub parts : cs ≡ pre ++ cell i face ∷ post
  pub has : Has K id face o
  pub first : Lacks K id pre

-- What is found of an id.
abbrev pub Found : {C : Type 0} → Ghosts C → Id → List (Cell C) → Option (ℕ × ℕ) → Type 0
Found K id cs None = Lacks K id cs
Found K id cs (Some p) = FoundAt K id cs p.0 p.1

-- How many visible units a face has: none if it is removed or its content does not count.
abbrev pub shown : {C : Type 0} → Ghosts C → Face C → ℕ
shown K f = cond f.removed 0 (cond (K.counts f.content) (K.size f.content) 0)

-- How many visible units the cells have.
abbrev pub visible : {C : Type 0} → Ghosts C → List (Cell C) → ℕ
visible K [] = 0
visible K (c ∷ cs) = shown K c.face + visible K cs

-- The gap directly after so many visible units is that after the first o units, at least one, of the visible block at i.
pub record SoughtAt {C : Type 0} (K : Ghosts C) (index : ℕ) (cs : List (Cell C)) (i o : ℕ) : Type 0 where
  pub pre : List (Cell C)
  pub face : Face C
  pub post : List (Cell C)
  pub parts : cs ≡ pre ++ cell i face ∷ post
  pub stays : face.removed ≡ false
  pub counted : K.counts face.content ≡ true
  pub some : 0 < o
  pub inside : o ≤ K.size face.content
  pub sum : visible K pre + o ≡ index

-- Where a visible index falls.
abbrev pub Sought : {C : Type 0} → Ghosts C → ℕ → List (Cell C) → Place → Type 0
Sought K index cs Front = index ≡ 0
Sought K index cs (After i o) = SoughtAt K index cs i o
Sought K index cs Past = visible K cs < index
