use Rattle.std.specs.Prelude.{ℕ, Bool, true, false, List}
use Rattle.source.specs.declared.id.Id.{Id}
use Rattle.source.specs.declared.sticky_index.Assoc.{Assoc}
use Rattle.source.specs.declared.sticky_index.Assoc.TheVariants.{Before, After}
use Rattle.source.specs.declared.sticky_index.IndexScope.{IndexScope}
use Rattle.source.specs.declared.sticky_index.IndexScope.TheVariants.{Relative, Nested, Root}
use Rattle.source.specs.declared.sticky_index.StickyIndex.{StickyIndex}

-- What the types mean, free of references.

-- An id: its client and its clock.
abbrev pub id_of : Id → ℕ × ℕ
id_of i = (i.client, i.clock)

-- Where a side of a source stands: at an id, or open on a nested list of that id or on the root list of that name.
pub data Scope : Type 0 where
  relative : ℕ → ℕ → Scope
  nested : ℕ → ℕ → Scope
  root : List ℕ → Scope

-- A side: its scope, and whether it sticks After.
abbrev pub Side : Type 0
Side = Scope × Bool

abbrev pub sticks_after : Assoc → Bool
sticks_after Before = false
sticks_after After = true

abbrev pub scope_of : IndexScope → Scope
scope_of (Relative i) = relative i.client i.clock
scope_of (Nested i) = nested i.client i.clock
scope_of (Root n) = root n.now

abbrev pub side_of : StickyIndex → Side
side_of s = (scope_of s.scope, sticks_after s.assoc)

-- Two scopes of one source: not one open on a nested list and the other on a root.
abbrev pub alike : Scope → Scope → Bool
alike (nested c k) (root n) = false
alike (root n) (nested c k) = false
alike (nested c k) (nested d l) = true
alike (nested c k) (relative d l) = true
alike (root n) (root m) = true
alike (root n) (relative d l) = true
alike (relative c k) (nested d l) = true
alike (relative c k) (relative d l) = true
alike (relative c k) (root n) = true
