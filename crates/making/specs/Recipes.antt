-- What a recipe asks for, and what a making answers and leaves.
use Rattle.std.specs.Prelude.{◌≡◌, ℕ, ◌+◌, ◌≤◌, Bool, List, ◌++◌, length, take, drop, Ok, Err, Option, Result}
use Rattle.content.specs.declared.content.Content.{Ghosts}
use Rattle.making.specs.declared.make.Made.{Made}
use Rattle.making.specs.declared.refusal.Refusal.{Refusal}
use Rattle.making.specs.Verdicts.{refused, verdict}

-- What a recipe asks for: whether the units are countable, the units, whether one of them may not stand,
-- and the words that are appended, given the used ones.
pub record Recipe : Type 0 where
  pub counts : Bool
  pub units : List ℕ
  pub faulty : Bool
  pub spent : List ℕ → List ℕ

-- The table after more was appended to its used words.
abbrev pub appended : List ℕ → ℕ → List ℕ → List ℕ
appended ws used more = take used ws ++ (more ++ drop (used + length more) ws)

-- By which number a recipe is refused, or None.
abbrev pub judged : Recipe → List ℕ → ℕ → Option ℕ
judged r before used = verdict (length r.units) r.faulty (length (r.spent (take used before))) (length before) used

-- What an accepted making leaves: the table and the count of its used words, exactly,
-- and a content that fits them and has just the units that the recipe asks for.
pub record Makes {C : Type 0} (K : Ghosts C) (r : Recipe) (before : List ℕ) (used : ℕ) (after : List ℕ) (m : Made C) : Type 0 where
  pub words : after ≡ appended before used (r.spent (take used before))
  pub used_is : m.used ≡ used + length (r.spent (take used before))
  pub counted : K.counts m.content ≡ r.counts
  pub fits : K.reach m.content ≤ length (take m.used after)
  pub listing : K.units (take m.used after) m.content ≡ r.units

-- What a making leaves: a refusal leaves the table as it was.
abbrev pub Leaves : {C : Type 0} → Ghosts C → Recipe → List ℕ → ℕ → List ℕ → Result (Made C) Refusal → Type 0
Leaves K r before used after (Ok m) = Makes K r before used after m
Leaves K r before used after (Err e) = after ≡ before

-- A making: what it answers, that no used word changes, and what it leaves.
pub record Making {C : Type 0} (K : Ghosts C) (r : Recipe) (before : List ℕ) (used : ℕ) (after : List ℕ) (result : Result (Made C) Refusal) : Type 0 where
  pub answer : refused result ≡ judged r before used
  pub kept : take used after ≡ take used before
  pub leaves : Leaves K r before used after result
