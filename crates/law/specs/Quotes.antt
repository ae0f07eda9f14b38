-- A quote by visible indices: the source that its bounds give, and what that reads.
use Rattle.std.specs.Prelude.{◌≡◌, ℕ, ◌+◌, ◌-◌, ◌≤◌, ◌↔◌, List, length, take, drop, Some, None, filter, Option}
use Rattle.std.specs.List.{slice_get}
use Rattle.std.specs.Option.{option_map}
use Rattle.std.specs.declared.ops.Bound.{Bound}
use Rattle.std.specs.declared.ops.Bound.TheVariants.{Included, Excluded, Unbounded}
use Rattle.law.specs.Plain.{Id, Entry, visible, seen, times, gap, Side, Source, range}
use Rattle.law.specs.Plain.Side.{Open, Before, After}

-- The start that a bound gives; None where the index is outside. An included start i is Before the entry directly after visible entry i - 1,
-- hidden or not, and an excluded one After visible entry i.
abbrev pub quote_start : Bound ℕ → List Entry → Option Side
quote_start (Included i) xs = option_map (λ e. Before e.id) (slice_get xs (gap i xs))
quote_start (Excluded i) xs = option_map (λ e. After e.id) (slice_get (filter visible xs) i)
quote_start Unbounded xs = Some Open

-- The end that a bound gives: an included end j is After visible entry j, an excluded one Before it.
abbrev pub quote_end : Bound ℕ → List Entry → Option Side
quote_end (Included j) xs = option_map (λ e. After e.id) (slice_get (filter visible xs) j)
quote_end (Excluded j) xs = option_map (λ e. Before e.id) (slice_get (filter visible xs) j)
quote_end Unbounded xs = Some Open

-- An index is outside where there is no entry to anchor at: for an included start i where none stands behind the gap after visible entry
-- i - 1, and for any other bound where there are no more visible entries than its index.
abbrev pub QuoteOutside : Type 0
QuoteOutside = (xs : List Entry) (i : ℕ)
    → ((quote_start (Included i) xs ≡ None) ↔ (length xs ≤ gap i xs))
    × ((quote_start (Excluded i) xs ≡ None) ↔ (seen xs ≤ i))
    × ((quote_end (Included i) xs ≡ None) ↔ (seen xs ≤ i))
    × ((quote_end (Excluded i) xs ≡ None) ↔ (seen xs ≤ i))

-- The first visible index between the bounds, and the first behind them, of L visible entries.
abbrev pub low : Bound ℕ → ℕ
low (Included i) = i
low (Excluded i) = i + 1
low Unbounded = 0

abbrev pub high : Bound ℕ → ℕ → ℕ
high (Included j) all = j + 1
high (Excluded j) all = j
high Unbounded all = all

-- A quote's range has just the visible entries between its bounds.
abbrev pub QuoteReads : Type 0
QuoteReads = (b c : Bound ℕ) (s : Source) (xs : List Entry) → ((a : Id) → times a xs ≤ 1)
    → quote_start b xs ≡ Some s.start → quote_end c xs ≡ Some s.end
    → filter visible (range s xs) ≡ take (high c (seen xs) - low b) (drop (low b) (filter visible xs))
