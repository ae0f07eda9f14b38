-- Makings one after another.
use Rattle.std.specs.Prelude.{◌≡◌, ℕ, ◌+◌, ◌≤◌, Bool, true, false, List, [], ◌∷◌, map, length, take, is_some, Some, None, Option}
use Rattle.std.specs.List.{AllZip}
use Rattle.content.specs.declared.content.Content.{Ghosts}
use Rattle.making.specs.Recipes.{Recipe, appended, judged}

-- A table of words and how many of them are used.
pub record Table : Type 0 where
  pub words : List ℕ
  pub used : ℕ

abbrev pub table : List ℕ → ℕ → Table
table ws used = record { words = ws; used = used }

-- x where nothing is refused, else y.
abbrev pub unless_refused : {X : Type 0} → Option ℕ → X → X → X
unless_refused None x y = x
unless_refused (Some n) x y = y

-- The table after a recipe was accepted or refused.
abbrev pub next : Recipe → Table → Table
next r t =
    unless_refused (judged r t.words t.used)
    (table (appended t.words t.used (r.spent (take t.used t.words))) (t.used + length (r.spent (take t.used t.words))))
    t

-- The table after all of the recipes.
abbrev pub last : {R : Type 0} → (R → Recipe) → List R → Table → Table
last asks [] t = t
last asks (r ∷ rs) t = last asks rs (next (asks r) t)

-- Which of the recipes are accepted.
abbrev pub accepted : {R : Type 0} → (R → Recipe) → List R → Table → List Bool
accepted asks [] t = []
accepted asks (r ∷ rs) t = unless_refused (judged (asks r) t.words t.used) true false ∷ accepted asks rs (next (asks r) t)

-- The content has what the recipe asks for, over the used words t.
pub record Has {C : Type 0} (K : Ghosts C) (t : List ℕ) (r : Recipe) (c : C) : Type 0 where
  pub counted : K.counts c ≡ r.counts
  pub fits : K.reach c ≤ length t
  pub listing : K.units t c ≡ r.units

-- What was made, if anything was, has what its recipe asks for.
abbrev pub Kept : {C R : Type 0} → Ghosts C → (R → Recipe) → List ℕ → R → Option C → Type 0
Kept K asks t r (Some c) = Has K t (asks r) c
Kept K asks t r None = Unit {0}

-- What makings one after another leave: the table, exactly, with the words that were used before; which recipes
-- were accepted; and contents that, after all the makings, have what their recipes ask for.
pub record Sequence {C R : Type 0} (K : Ghosts C) (asks : R → Recipe) (recipes : List R) (before : List ℕ) (used : ℕ) (after : List ℕ) (used_after : ℕ) (made : List (Option C)) : Type 0 where
  pub exact : table after used_after ≡ last asks recipes (table before used)
  pub chosen : map is_some made ≡ accepted asks recipes (table before used)
  pub more : used ≤ used_after
  pub kept : take used after ≡ take used before
  pub each : AllZip (Kept K asks (take used_after after)) recipes made
