-- The laws of a content kind.
use Rattle.std.specs.Prelude.{◌≡◌, ℕ, ◌<◌, ◌≤◌, List, ◌++◌, length}
use Rattle.content.specs.Meaning.{Halves}
use Rattle.content.specs.declared.content.Content.{Ghosts}

-- The laws of the trait, as one fact of its ghost members.
pub record Lawful {C : Type 0} (K : Ghosts C) : Type 0 where
  pub sized : (t : List ℕ) (c : C) → K.reach c ≤ length t → length (K.units t c) ≡ K.size c
  pub steady : (t u : List ℕ) (c : C) → K.reach c ≤ length t → K.units (t ++ u) c ≡ K.units t c
  pub halves : (k : ℕ) (c : C) → 0 < k → k < K.size c → Halves K.size K.counts K.reach K.units k c (K.fore k c) (K.rear k c)
