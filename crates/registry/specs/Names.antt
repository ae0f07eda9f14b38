use Rattle.std.specs.Prelude.{◌≡◌, ℕ, cond, List, map, length, Some, None, Ok, Err, Option, Result, nat_lt}
use Rattle.std.specs.Str.{bytes_eq}
use Rattle.record.specs.Names.{name_fine}
use Rattle.law.specs.Plain.{with_new}
use Rattle.registry.specs.declared.names.Names.{Names}
use Rattle.registry.specs.declared.names.OpenRefusal.{OpenRefusal}
use Rattle.registry.specs.declared.names.OpenRefusal.TheVariants as no
use Rattle.registry.specs.FixedLists.{items_of}
use Rattle.registry.specs.Name.{name_of}
use Rattle.registry.specs.Places.{place_by}

-- The number of each refusal.
abbrev pub open_refusal : OpenRefusal → ℕ
open_refusal no.Name = 1
open_refusal no.Full = 2

-- The names of the open lists.
abbrev pub names_of : Names → List (List ℕ)
names_of s = map name_of (items_of s.names)

-- The number of a known name, or the next number for a new one while fewer than 16 lists are open.
abbrev pub numbered : List (List ℕ) → Option ℕ → Result ℕ OpenRefusal
numbered ns (Some n) = Ok n
numbered ns None = cond (nat_lt (length ns) 16) (Ok (length ns)) (Err no.Full)

-- What opening answers: the name is judged first.
abbrev pub opened : List ℕ → List (List ℕ) → Result ℕ OpenRefusal
opened name ns = cond (name_fine name) (numbered ns (place_by (bytes_eq name) ns)) (Err no.Name)

-- The names afterwards: one more, unless it was known; a refusal changes nothing.
abbrev pub Opening : List ℕ → Names → Names → Result ℕ OpenRefusal → Type 0
Opening name s z (Ok n) = names_of z ≡ with_new bytes_eq name (names_of s)
Opening name s z (Err e) = z ≡ s
