-- What a content tells of a unit, and what a cut is.
use Rattle.std.specs.Prelude.{◌≡◌, ℕ, ◌+◌, ◌≤◌, Bool, cond, List, ◌++◌, length, Some, None, Option, nat_lt, slice_index}

-- The unit at offset k of a content that has the n units us; nothing where k is not below n or the content does not fit.
abbrev pub told : Bool → ℕ → List ℕ → ℕ → Option ℕ
told fit n us k = cond fit (cond (nat_lt k n) (Some (slice_index us k)) None) None

-- The contents l and r are the first k units of c and the others, both countable as c is and fitting wherever c fits:
-- over every table that c fits, the units of l and then those of r are the units of c.
pub record Halves {C : Type 0} (size : C → ℕ) (counts : C → Bool) (reach : C → ℕ) (units : List ℕ → C → List ℕ) (k : ℕ) (c l r : C) : Type 0 where
  pub front : size l ≡ k
  pub sums : size l + size r ≡ size c
  pub left_counts : counts l ≡ counts c
  pub right_counts : counts r ≡ counts c
  pub left_reach : reach l ≤ reach c
  pub right_reach : reach r ≤ reach c
  pub joins : (t : List ℕ) → reach c ≤ length t → units t l ++ units t r ≡ units t c
