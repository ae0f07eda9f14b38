use Rattle.std.specs.Prelude.{ℕ, zero, suc, ◌+◌, Bool, true, false, cond, List, [], ◌∷◌, take, drop, Some, None, Ok, Err, Option, Result, ◌==◌}
use Rattle.leb128.specs.declared.fault.NumberFault.{NumberFault}
use Rattle.leb128.specs.declared.field.NumberField.TheVariants.{Client, Clock, Count}
use Rattle.leb128.specs.Reading.{number_at}
use Rattle.source.specs.Meaning.{Scope, relative, nested, root, Side}
use Rattle.record.specs.declared.fault.RecordCause.{RecordCause}
use Rattle.record.specs.declared.fault.RecordCause.TheVariants as rec
use Rattle.record.specs.declared.fault.RecordFault.{RecordFault}
use Rattle.record.specs.declared.fault.RecordFault.TheVariants.{Number, Own}
use Rattle.record.specs.Names.{printable, name_count}
use Rattle.record.specs.Format.{has_flag}

-- What reading a record answers, from its first byte on. `Forms` has the same with no step of a reader in it.

-- One reading after another: the first fault ends it.
abbrev pub then : {A B E : Type 0} → Result A E → (A → Result B E) → Result B E
then (Ok x) f = f x
then (Err e) f = Err e

-- A number's fault in a record's.
abbrev pub lifted : {A : Type 0} → Result A NumberFault → Result A RecordFault
lifted (Ok x) = Ok x
lifted (Err e) = Err (Number e)

-- An id, and the place after it.
abbrev pub id_at : List ℕ → ℕ → Result ((ℕ × ℕ) × ℕ) NumberFault
id_at bs p = then (number_at Client bs p) (λ c. then (number_at Clock bs (p + c.1)) (λ k. Ok ((c.0, k.0), p + c.1 + k.1)))

-- The first fault in a name of so many bytes.
abbrev pub name_fault : ℕ → List ℕ → Option RecordCause
name_fault zero bs = None
name_fault (suc k) [] = Some rec.Ends
name_fault (suc k) (b ∷ bs) = cond (printable b) (name_fault k bs) (Some rec.Name)

-- The name of `count` bytes from p on, unless one of them has a fault; its count begins at `start`.
abbrev pub name_here : List ℕ → (start p count : ℕ) → Option RecordCause → Result (List ℕ × ℕ) RecordFault
name_here bs start p n None = Ok (take n (drop p bs), p + n)
name_here bs start p n (Some c) = Err (Own c start)

-- A name, and the place after it. Its count is judged at its last byte, and then each of its bytes.
abbrev pub name_at : List ℕ → ℕ → Result (List ℕ × ℕ) RecordFault
name_at bs p =
    then (lifted (number_at Count bs p)) (λ c.
    cond (name_count c.0) (name_here bs p (p + c.1) c.0 (name_fault c.0 (drop (p + c.1) bs))) (Err (Own rec.Name p)))

-- A scope, and the place after it: an anchor, or open by root name or nested list.
abbrev pub scope_at : (o by_name : Bool) → List ℕ → ℕ → Result (Scope × ℕ) RecordFault
scope_at false n bs p = then (lifted (id_at bs p)) (λ i. Ok (relative i.0.0 i.0.1, i.1))
scope_at true false bs p = then (lifted (id_at bs p)) (λ i. Ok (nested i.0.0 i.0.1, i.1))
scope_at true true bs p = then (name_at bs p) (λ i. Ok (root i.0, i.1))

-- The end's scope after the start's, and the place after it. Without one in the record it is the start's.
abbrev pub end_at : ℕ → List ℕ → Scope × ℕ → Result (Scope × ℕ) RecordFault
end_at f bs s =
    cond (has_flag 16 f) (scope_at true (has_flag 32 f) bs s.1)
    (cond (has_flag 1 f) (scope_at false false bs s.1) (Ok s))

-- What stands after the flags.
abbrev pub fields : ℕ → List ℕ → Result ((Side × Side) × ℕ) RecordFault
fields f bs =
    then (scope_at (has_flag 8 f) (has_flag 32 f) bs 2) (λ s.
    then (end_at f bs s) (λ e. Ok (((s.0, has_flag 2 f), (e.0, has_flag 4 f)), e.1)))

-- The source that bytes begin with, and how many bytes it takes.
abbrev pub decode : List ℕ → Result ((Side × Side) × ℕ) RecordFault
decode [] = Err (Own rec.Ends 0)
decode (b ∷ []) = cond (b == 7) (Err (Own rec.Ends 1)) (Err (Own rec.Kind 0))
decode (b ∷ f ∷ bs) = cond (b == 7) (fields f (b ∷ f ∷ bs)) (Err (Own rec.Kind 0))
