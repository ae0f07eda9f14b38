-- What is read off a lawful document: where ids and gaps fall among the faces, and which links hold them.
use Rattle.std.specs.Prelude.{◌≡◌, ℕ, ◌+◌, ◌-◌, ◌^◌, ◌<◌, ◌≤◌, Bool, true, false, ◌⊎◌, List, ◌∷◌, ◌++◌, length, Some, count_ones}
use Rattle.std.specs.List.{range_with_len}
use Rattle.law.specs.Plain.{Id, Entry, visible, many, seen, times, gap, Source, place, Plain}
use Rattle.law.specs.Faces.{Face, laid, bit, held, Inside, Outside, JustLinks, Law}

-- The id is one of a face's.
abbrev pub In : Id → Face → Type 0
In a f = (a.client ≡ f.first.client) × (f.first.clock ≤ a.clock) × (a.clock < f.first.clock + length f.units)

-- No id stands twice in a list.
abbrev pub IdsOnce : Type 0
IdsOnce = (F : ℕ → List Face) (p : Plain) (l : ℕ) (a : Id) → Law F p → times a (p.lists l) ≤ 1

-- An id of a face has been inserted.
abbrev pub IdCounted : Type 0
IdCounted = (F : ℕ → List Face) (p : Plain) (l : ℕ) (a : Id) (xs : List Face) (f : Face) (ys : List Face)
    → Law F p → F l ≡ xs ++ f ∷ ys → In a f → a.clock < p.counts a.client

-- An id that has been inserted is one of a face's.
abbrev pub IdFound : Type 0
IdFound = (F : ℕ → List Face) (p : Plain) (a : Id) → Law F p → a.clock < p.counts a.client
    → (l : ℕ) × (xs : List Face) × (f : Face) × (ys : List Face) × (F l ≡ xs ++ f ∷ ys) × In a f

-- Its place is that of its face, and its offset there more.
abbrev pub IdPlaced : Type 0
IdPlaced = (F : ℕ → List Face) (p : Plain) (l : ℕ) (a : Id) (xs : List Face) (f : Face) (ys : List Face)
    → Law F p → F l ≡ xs ++ f ∷ ys → In a f → place a (p.lists l) ≡ length (laid xs) + (a.clock - f.first.clock)

-- How many of the 64 link numbers pass a test.
unfoldable pub many_links : (ℕ → Bool) → ℕ
many_links test = many test (range_with_len 0 64)

-- The ones in the link set of an id's face are as many as the live links that hold the id.
abbrev pub LinksCounted : Type 0
LinksCounted = (F : ℕ → List Face) (p : Plain) (l : ℕ) (a : Id) (xs : List Face) (f : Face) (ys : List Face)
    → Law F p → F l ≡ xs ++ f ∷ ys → In a f → f.links < 2 ^ 64
    → count_ones f.links ≡ many_links (λ n. held p l n (place a (p.lists l)))

-- Each face lies wholly in or wholly out of each live range of its list, and its bit says which.
abbrev pub FacesWhole : Type 0
FacesWhole = (F : ℕ → List Face) (p : Plain) (n : ℕ) (s : Source) (xs : List Face) (f : Face) (ys : List Face)
    → Law F p → p.links n ≡ Some s → F s.list ≡ xs ++ f ∷ ys
    → ((bit n f.links ≡ true) × Inside s (p.lists s.list) (length (laid xs)) (length f.units))
    ⊎ ((bit n f.links ≡ false) × Outside s (p.lists s.list) (length (laid xs)) (length f.units))

-- A bit that is set stands for a live link of the face's list.
abbrev pub FacesLive : Type 0
FacesLive = (F : ℕ → List Face) (p : Plain) (n l : ℕ) (xs : List Face) (f : Face) (ys : List Face)
    → Law F p → F l ≡ xs ++ f ∷ ys → bit n f.links ≡ true → (s : Source) × (p.links n ≡ Some s) × (s.list ≡ l)

-- A face's link set is just the live links of its list whose range holds it.
abbrev pub FacesLinked : Type 0
FacesLinked = (F : ℕ → List Face) (p : Plain) (l : ℕ) (xs : List Face) (f : Face) (ys : List Face)
    → Law F p → F l ≡ xs ++ f ∷ ys → JustLinks p l (length (laid xs)) (length f.units) f.links

-- A gap lies between two faces, or inside one.
abbrev pub GapSplit : Type 0
GapSplit = (fs : List Face) (g : ℕ) → g ≤ length (laid fs)
    → ((xs : List Face) × (ys : List Face) × (fs ≡ xs ++ ys) × (length (laid xs) ≡ g))
    ⊎ ((xs : List Face) × (f : Face) × (ys : List Face) × (k : ℕ)
    × (fs ≡ xs ++ f ∷ ys) × (length (laid xs) + k ≡ g) × (0 < k) × (k < length f.units))

-- The gap of a visible index i above 0 lies directly after visible entry i - 1: here e, where i - 1 visible ones stand among the entries xs before it.
abbrev pub GapAfter : Type 0
GapAfter = (xs : List Entry) (e : Entry) (ys : List Entry) → visible e ≡ true → gap (seen xs + 1) (xs ++ e ∷ ys) ≡ length xs + 1
