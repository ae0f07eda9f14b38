use Rattle.std.proofs.Common.{◌≡◌, ℕ, ◌+◌, ◌≤◌, Bool, true, not, ◌||◌, nat_lt, List, ◌++◌, length, take, drop, None, Ok, sym, refl, subst, arith}
use Rattle.std.proofs.lemmas.List.{drop_at, length-take-le, length-append}
use Rattle.std.proofs.lemmas.Bool.{ltb-true}
use Rattle.std.proofs.lemmas.Bool.Decides.{nat_tests}
use Rattle.leb128.specs.declared.field.NumberField.TheVariants.{Client, Clock}
use Rattle.leb128.specs.Fields.{limit}
use Rattle.source.specs.declared.sticky_index.StickyIndex.{StickyIndex}
use Rattle.source.specs.Meaning.{Scope, Side, alike, scope_of, side_of}
use Rattle.leb128.specs.Leb128.{uleb}
use Rattle.leb128.specs.Buffers.{written}
use Rattle.record.specs.Format.{id_bytes, name_bytes, scope_bytes, is_open, by_name, single, bit, has_flag, flags, end_bytes, record_of}
use Rattle.record.specs.Names.{name_fine}
use Rattle.record.specs.Decoding.{decode}
use Rattle.record_writer.specs.Encoding.{names_fine, clients_fine, clocks_fine, refused}
use Rattle.record.specs.Forms.{NumberForm, IdForm, NameForm, ScopeForm, Way, EndForm, RecordForm}
use Rattle.leb128.proofs.Leb128Laws.{length-uleb, form-uleb, sum-uleb}
use Rattle.record.proofs.FormLaws.{complete}

-- The writer's bytes are a form of its source's record.

-- What the writer's tests and the clock's type say of a scope.
pub record Fine (s : Scope) : Type 0 where
  pub name : names_fine s ≡ true
  pub client : clients_fine s ≡ true
  pub clock : clocks_fine s ≡ true

-- It is told of a side's own scope, and meant of what the scope stands for.
pub fine_as : (i : StickyIndex) (s : Side) → side_of i ≡ s → names_fine (scope_of i.scope) ≡ true
    → (clients_fine (scope_of i.scope) ≡ true) × (clocks_fine (scope_of i.scope) ≡ true) → Fine s.0
fine_as i s e n c = subst (λ x. Fine x.0) e (record { name = n; client = c.0; clock = c.1 })

client_own : (c : ℕ) → nat_lt c (limit Client) ≡ true → NumberForm Client (uleb c) c
client_own c f = (form-uleb c, length-uleb 9 c (omega (arith, ltb-true)), sum-uleb c, ltb-true c (limit Client) f)

clock_own : (k : ℕ) → nat_lt k (limit Clock) ≡ true → NumberForm Clock (uleb k) k
clock_own k f = (form-uleb k, length-uleb 4 k (omega (arith, ltb-true)), sum-uleb k, ltb-true k (limit Clock) f)

id_own : (c k : ℕ) → nat_lt c (limit Client) ≡ true → nat_lt k (limit Clock) ≡ true → IdForm (id_bytes c k) c k
id_own c k f g = (uleb c, uleb k, refl, client_own c f, clock_own k g)

name_fits : (n : List ℕ) → name_fine n ≡ true → length n ≤ 32
name_fits n f = grind (arith, nat_tests)

name_own : (n : List ℕ) → name_fine n ≡ true → NameForm (name_bytes n) n
name_own n f = (uleb (length n), refl, clock_own (length n) (grind (arith, nat_tests, name_fits n f)), f)

scope_own : (s : Scope) → Fine s → ScopeForm (scope_bytes s) s
scope_own s f = grind (arith, id_own, name_own)

-- A form of a scope takes at most 42 bytes, and one of a record at most two of them and two bytes more.
form_short : (r : List ℕ) (s : Scope) → ScopeForm r s → length r ≤ 42
form_short r s i = grind (arith, length-append, name_fits)

pub record_short : (r : List ℕ) (s e : Side) → RecordForm r s e → length r ≤ 86
record_short r s e g = grind (arith, length-append, form_short)

end_own : (s e : Scope) (t : Bool) → Fine e → Way t e → EndForm (is_open e) (not (single s e)) t (end_bytes (single s e) e) s e
end_own s e t f u = grind (arith, nat_tests, scope_own)

-- The root flag of a source suits both its scopes, since it is open one way.
ways : (s e : Scope) → alike s e ≡ true → Way (by_name s || by_name e) s × Way (by_name s || by_name e) e
ways s e a = grind arith

-- The flags, one by one.
flag_told : (a b c d g h : Bool) → let f : ℕ = bit 1 a + bit 2 b + bit 4 c + bit 8 d + bit 16 g + bit 32 h in
    (has_flag 1 f ≡ a) × (has_flag 2 f ≡ b) × (has_flag 4 f ≡ c) × (has_flag 8 f ≡ d) × (has_flag 16 f ≡ g) × (has_flag 32 f ≡ h)
flag_told a b c d g h = grind (arith, nat_tests)

pub own : (s e : Side) → alike s.0 e.0 ≡ true → Fine s.0 → Fine e.0 → RecordForm (record_of s e) s e
own s e a f g =
    let t : Bool = by_name s.0 || by_name e.0 in
    let w = ways s.0 e.0 a in
    let m = flag_told (not (single s.0 e.0)) s.1 e.1 (is_open s.0) (is_open e.0) t in (
      flags s e,
      scope_bytes s.0,
      end_bytes (single s.0 e.0) e.0,
      refl,
      sym m.3,
      rw m.5 w.0,
      scope_own s.0 f,
      sym m.1,
      rw (m.4, m.0, m.5) (end_own s.0 e.0 t g w.1),
      sym m.2,
    )

-- The reader gives back what the writer wrote, whatever stands after it.
pub written_back : (buf out : List ℕ) (s e : Side) (p : ℕ) → p ≤ length buf → out ≡ written buf p (record_of s e) → RecordForm (record_of s e) s e
    → decode (drop p out) ≡ Ok ((s, e), length (record_of s e))
written_back buf out s e p h w g =
    rw (w, drop_at (take p buf) (record_of s e ++ drop (p + length (record_of s e)) buf) p (length-take-le p buf h))
    (complete (record_of s e) (drop (p + length (record_of s e)) buf) s e g)

pub not_refused : (len p : ℕ) (s e : Side) → Fine s.0 → Fine e.0 → p + length (record_of s e) ≤ len → refused len p s e ≡ None
not_refused len p s e f g h = simp (f.name, g.name, f.client, g.client) (grind (arith, nat_tests))
