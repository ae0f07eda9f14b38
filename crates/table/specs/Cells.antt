-- The lists of a table, by the cells that they are made of.
use Rattle.std.specs.Prelude.{◌≡◌, ℕ, zero, suc, ◌<◌, Bool, false, ◌≢◌, List, [], ◌∷◌, length, Some, None, Option, slice_index_or}
use Rattle.std.specs.List.{slice_get, AllByRecursion}
use Rattle.source.specs.declared.id.Id.{Id}
use Rattle.table.specs.declared.block.Block.{Block}

-- What a block is without its list and its neighbours.
pub record Face (C : Type 0) : Type 0 where
  pub id : Id
  pub origin : Option Id
  pub right_origin : Option Id
  pub removed : Bool
  pub links : ℕ
  pub content : C

-- A block's place in the table, with its face.
pub record Cell (C : Type 0) : Type 0 where
  pub at : ℕ
  pub face : Face C

-- The cell of the face f at i.
abbrev pub cell : {C : Type 0} → ℕ → Face C → Cell C
cell i f = record { at = i; face = f }

-- The block of list l with the face f between the neighbours p and n.
abbrev pub block : {C : Type 0} → ℕ → Option ℕ → Option ℕ → Face C → Block C
block l p n f = record { id = f.id; list = l; left = p; right = n; origin = f.origin; right_origin = f.right_origin; removed = f.removed; links = f.links; content = f.content }

-- The face of a block.
abbrev pub face_of : {C : Type 0} → Block C → Face C
face_of b = record { id = b.id; origin = b.origin; right_origin = b.right_origin; removed = b.removed; links = b.links; content = b.content }

-- A record in which no block stands.
abbrev pub unused : {C : Type 0} → C → Block C
unused c = block 0 None None (record { id = record { client = 0; clock = 0 }; origin = None; right_origin = None; removed = false; links = 0; content = c })

-- The list t has x at i. The element is its own default, since a kind of content need not have another.
pub record Holds {X : Type 0} (t : List X) (i : ℕ) (x : X) : Type 0 where
  pub within : i < length t
  pub is : x ≡ slice_index_or t i x

-- Where the cells begin, n if there are none.
abbrev pub front_or : {C : Type 0} → List (Cell C) → Option ℕ → Option ℕ
front_or [] n = n
front_or (c ∷ cs) n = Some c.at

-- The same, none if there are none.
abbrev pub front : {C : Type 0} → List (Cell C) → Option ℕ
front cs = front_or cs None

-- Where the cells end, p if there are none.
abbrev pub last : {C : Type 0} → Option ℕ → List (Cell C) → Option ℕ
last p [] = p
last p (c ∷ cs) = last (Some c.at) cs

-- The cells stand in the table as a run of list l between the neighbours p and n: each has its list's number,
-- the one before it as left neighbour and the one after it as right neighbour.
abbrev pub Seg : {C : Type 0} → List (Block C) → ℕ → Option ℕ → List (Cell C) → Option ℕ → Type 0
Seg t l p [] n = Unit {0}
Seg t l p (c ∷ cs) n = Holds t c.at (block l p (front_or cs n) c.face) × Seg t l (Some c.at) cs n

-- The same of a run that ends its list.
abbrev pub Path : {C : Type 0} → List (Block C) → ℕ → Option ℕ → List (Cell C) → Type 0
Path t l p cs = Seg t l p cs None

-- The record i is none of the cells'.
abbrev pub Apart : {C : Type 0} → ℕ → List (Cell C) → Type 0
Apart i cs = AllByRecursion (λ c. c.at ≢ i) cs

-- What f makes of a block, nothing if there is none.
abbrev pub with_block : {X Y : Type 0} → Option X → (X → List Y) → List Y
with_block None f = []
with_block (Some x) f = f x

-- The cells that right neighbours lead to from a place, at most k of them.
abbrev pub cells_from : {C : Type 0} → ℕ → List (Block C) → Option ℕ → List (Cell C)
cells_from zero t p = []
cells_from (suc k) t None = []
cells_from (suc k) t (Some i) = with_block (slice_get t i) (λ b. cell i (face_of b) ∷ cells_from k t b.right)

-- The cells of the list that begins at a place: no list has more of them than the table has records.
unfoldable pub cells : {C : Type 0} → List (Block C) → Option ℕ → List (Cell C)
cells t start = cells_from (length t) t start

-- List l stands in the table from start on: the cells that right neighbours lead to are all of it, and left ones lead back.
pub record Stands {C : Type 0} (t : List (Block C)) (l : ℕ) (start : Option ℕ) : Type 0 where
  pub path : Path t l None (cells t start)
  pub starts : front (cells t start) ≡ start

-- The list m, which begins at start, stands in the table u with the cells that it has in t.
pub record Kept {C : Type 0} (t u : List (Block C)) (m : ℕ) (start : Option ℕ) : Type 0 where
  pub stands : Stands u m start
  pub same : cells u start ≡ cells t start
