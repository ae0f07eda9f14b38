-- What is read of a range.
use Rattle.std.specs.Prelude.{◌≡◌, ℕ, ◌+◌, ◌-◌, max, cond, List, [], ◌∷◌, ◌++◌, length, take, drop, Some, filter}
use Rattle.std.specs.List.{flat_map}
use Rattle.law.specs.Plain.{Entry, visible, Source, start_gap, end_gap, range, reading, Plain}
use Rattle.law.specs.Faces.{Face, entries, laid, bit, Law}

-- The range is the part of the list from its start gap up to its end gap.
abbrev pub RangeBetween : Type 0
RangeBetween = (s : Source) (xs : List Entry)
    → range s xs ≡ take (end_gap s.end xs - start_gap s.start xs) (drop (start_gap s.start xs) xs)

-- The visible entries of a face that link n holds.
abbrev pub shown : ℕ → Face → List Entry
shown n f = cond (bit n f.links) (filter visible (entries f)) []

-- The visible entries of the faces that a live link's bit is set in, from the k-th on, are what a reading of the link from k gives.
abbrev pub ReadingShown : Type 0
ReadingShown = (F : ℕ → List Face) (p : Plain) (n k : ℕ) (s : Source)
    → Law F p → p.links n ≡ Some s → drop k (flat_map (shown n) (F s.list)) ≡ reading s k (p.lists s.list)

-- A slice: what of the entries, the first at the place at, lies between two gaps.
abbrev pub slice : ℕ → ℕ → ℕ → List Entry → List Entry
slice start end at xs = take (end - max start at) (drop (start - at) xs)

-- The slices of faces, one after another.
abbrev pub slices : ℕ → ℕ → ℕ → List Face → List Entry
slices start end at [] = []
slices start end at (f ∷ fs) = slice start end at (entries f) ++ slices start end (at + length f.units) fs

-- The slices of a list's faces between the gaps of a source are its range.
abbrev pub SlicesRange : Type 0
SlicesRange = (s : Source) (fs : List Face)
    → slices (start_gap s.start (laid fs)) (end_gap s.end (laid fs)) 0 fs ≡ range s (laid fs)
