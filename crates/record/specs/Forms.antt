use Rattle.std.specs.Prelude.{◌≡◌, ℕ, ◌<◌, ◌≤◌, Bool, true, false, List, [], ◌∷◌, ◌++◌, length}
use Rattle.leb128.specs.declared.field.NumberField.{NumberField}
use Rattle.leb128.specs.declared.field.NumberField.TheVariants.{Client, Clock, Count}
use Rattle.leb128.specs.Fields.{max_len, limit}
use Rattle.leb128.specs.Leb128.{sum_of, form}
use Rattle.source.specs.Meaning.{Scope, relative, nested, root, Side}
use Rattle.record.specs.Names.{name_fine}
use Rattle.record.specs.Format.{is_open, has_flag}

-- What may stand for a source: all forms of its record, the writer's among them, with no step of a reader in it.

-- A number's form, within what its field allows.
abbrev pub NumberForm : NumberField → List ℕ → ℕ → Type 0
NumberForm field p v = (form p ≡ true) × (length p ≤ max_len field) × (sum_of p ≡ v) × (v < limit field)

-- A client, then a clock.
abbrev pub IdForm : List ℕ → ℕ → ℕ → Type 0
IdForm r c k = (a : List ℕ) × (b : List ℕ) × (r ≡ a ++ b) × NumberForm Client a c × NumberForm Clock b k

-- A byte count, then a name of so many bytes that a list may have.
abbrev pub NameForm : List ℕ → List ℕ → Type 0
NameForm r n = (a : List ℕ) × (r ≡ a ++ n) × NumberForm Count a (length n) × (name_fine n ≡ true)

abbrev pub ScopeForm : List ℕ → Scope → Type 0
ScopeForm r (relative c k) = IdForm r c k
ScopeForm r (nested c k) = IdForm r c k
ScopeForm r (root n) = NameForm r n

-- The root flag of an open scope says whether it is open by name; of an anchor it says nothing.
abbrev pub Way : Bool → Scope → Type 0
Way t (relative c k) = Unit {0}
Way t (nested c k) = t ≡ false
Way t (root n) = t ≡ true

-- The end, by the flags `end open`, `not single` and `root`: written, or the start's.
abbrev pub EndForm : (o many t : Bool) → List ℕ → Scope → Scope → Type 0
EndForm true many t b s e = (is_open e ≡ true) × Way t e × ScopeForm b e
EndForm false true t b s e = (is_open e ≡ false) × ScopeForm b e
EndForm false false t b s e = (b ≡ []) × (e ≡ s)

-- The bytes r are a record of the source from s to e. The flags 40 and 80 may be either.
abbrev pub RecordForm : List ℕ → Side → Side → Type 0
RecordForm r s e =
    (f : ℕ) × (a : List ℕ) × (b : List ℕ) × (r ≡ 7 ∷ f ∷ (a ++ b))
    × (is_open s.0 ≡ has_flag 8 f) × Way (has_flag 32 f) s.0 × ScopeForm a s.0 × (s.1 ≡ has_flag 2 f)
    × EndForm (has_flag 16 f) (has_flag 1 f) (has_flag 32 f) b s.0 e.0 × (e.1 ≡ has_flag 4 f)
