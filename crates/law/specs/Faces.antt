-- What the blocks of a list show, and the law: they hold the plain document.
use Rattle.std.specs.Prelude.{◌≡◌, ℕ, ◌+◌, ◌/◌, ◌%◌, ◌^◌, ◌<◌, ◌≤◌, Bool, true, false, cond, ◌&&◌, ◌⊎◌, List, [], ◌∷◌, length, Some, None, Option, ◌==◌, ◌≢◌, nat_eq, nat_lt}
use Rattle.std.specs.List.{flat_map, AllByRecursion}
use Rattle.law.specs.Plain.{Id, Entry, many, times, entries_of, Side, Source, place, start_gap, end_gap, within, Plain}
use Rattle.law.specs.Plain.Side.{Open, Before, After}

-- A face: a block without its neighbours and origins, its content as the units and the countable that it means.
-- It is a run of ids from its first one on, one for each unit.
pub record Face : Type 0 where
  pub first : Id
  pub removed : Bool
  pub links : ℕ
  pub countable : Bool
  pub units : List ℕ

-- The entries that a face stands for.
abbrev pub entries : Face → List Entry
entries f = entries_of f.first f.countable f.removed f.units

-- The entries of faces, one face after another.
abbrev pub laid : List Face → List Entry
laid fs = flat_map entries fs

-- Bit n of a link set, which stands for link n.
unfoldable pub bit : ℕ → ℕ → Bool
bit n links = links / 2 ^ n % 2 == 1

-- Whether a link number has a live link, on list l, whose range holds the entry at place q there.
abbrev pub holds_at : Option Source → ℕ → List Entry → ℕ → Bool
holds_at None l xs q = false
holds_at (Some s) l xs q = s.list == l && within s xs q

-- Whether link n is live on list l of a plain document, and its range holds the entry at place q there.
abbrev pub held : Plain → ℕ → ℕ → ℕ → Bool
held p l n q = holds_at (p.links n) l (p.lists l) q

-- In each face, the first of which begins at the place at: for each of its places q, bit n of its link set is what the test says of
-- link n and q. So each face lies wholly in or wholly out of each range.
abbrev pub Linked : (ℕ → ℕ → Bool) → ℕ → List Face → Type 0
Linked test at [] = Unit {0}
Linked test at (f ∷ fs) =
    ((n q : ℕ) → at ≤ q → q < at + length f.units → bit n f.links ≡ test n q) × Linked test (at + length f.units) fs

-- Each face has a unit.
abbrev pub Filled : List Face → Type 0
Filled fs = AllByRecursion (λ f. 0 < length f.units) fs

-- The n entries from the place at on lie wholly in the range; or wholly out of it, behind its end, before its start or where it is empty.
abbrev pub Inside : Source → List Entry → ℕ → ℕ → Type 0
Inside s xs at n = (start_gap s.start xs ≤ at) × (at + n ≤ end_gap s.end xs)

abbrev pub Outside : Source → List Entry → ℕ → ℕ → Type 0
Outside s xs at n =
    (end_gap s.end xs ≤ at) ⊎ ((at + n ≤ start_gap s.start xs) ⊎ (end_gap s.end xs ≤ start_gap s.start xs))

-- The link set w is just the live links of list l whose range holds the n entries from the place at on.
abbrev pub JustLinks : Plain → ℕ → ℕ → ℕ → ℕ → Type 0
JustLinks p l at n w = (k : ℕ)
    → (bit k w ≡ true → (s : Source) × (p.links k ≡ Some s) × (s.list ≡ l) × Inside s (p.lists l) at n)
    × ((s : Source) → p.links k ≡ Some s → s.list ≡ l → Inside s (p.lists l) at n → bit k w ≡ true)

-- The entry that a side is anchored at stands in the list.
abbrev pub SideStands : Side → List Entry → Type 0
SideStands Open xs = Unit {0}
SideStands (Before a) xs = place a xs < length xs
SideStands (After a) xs = place a xs < length xs

-- The same of both sides of a source.
abbrev pub Anchored : Source → List Entry → Type 0
Anchored s xs = SideStands s.start xs × SideStands s.end xs

-- The law: the faces of each list, by its number, hold the plain document.
pub record Law (F : ℕ → List Face) (p : Plain) : Type 0 where
  -- the entries of a list's faces, in order, are the plain list's
  pub holds : (l : ℕ) → laid (F l) ≡ p.lists l
  -- no face is empty
  pub filled : (l : ℕ) → Filled (F l)
  -- a face's link set is just the live links whose range holds it; each other live range holds none of its entries
  pub linked : (l : ℕ) → Linked (held p l) 0 (F l)
  -- what a live link is anchored at stands in its list
  pub anchored : (n : ℕ) (s : Source) → p.links n ≡ Some s → Anchored s (p.lists s.list)
  -- no live link has a number of 64 or more
  pub few : (n : ℕ) (s : Source) → p.links n ≡ Some s → n < 64
  -- clocks run without gap or overlap: an id below its client's count stands once in one list and in no other
  pub once : (a : Id) → a.clock < p.counts a.client → (l : ℕ) × (times a (p.lists l) ≡ 1) × ((m : ℕ) → (m ≢ l) → times a (p.lists m) ≡ 0)
  -- and any other id in none
  pub never : (a : Id) → p.counts a.client ≤ a.clock → (l : ℕ) → times a (p.lists l) ≡ 0
  -- the clients that have inserted a unit stand once in the order of first insertions, and no other does
  pub clients : (c : ℕ) → many (nat_eq c) p.clients ≡ cond (nat_lt 0 (p.counts c)) 1 0
