use Rattle.std.proofs.Common.{◌≡◌, ℕ, ◌+◌, ◌≤◌, Bool, true, false, cond, eqb, List, [], ◌∷◌, ◌++◌, length, take, drop, IfOk, Some, None, Ok, Err, Option, Result, sym, refl, ap, ◌∙◌, subst, arith, MatchResult}
use Rattle.std.proofs.lemmas.List.{append_assoc, length-append, take-append-drop, length-take-le}
use Rattle.std.proofs.lemmas.Bool.{eqb-true}
use Rattle.leb128.specs.declared.fault.NumberFault.{NumberFault}
use Rattle.record.specs.declared.fault.RecordCause.{RecordCause}
use Rattle.record.specs.declared.fault.RecordFault.{RecordFault}
use Rattle.source.specs.Meaning.{Scope, Side}
use Rattle.leb128.specs.Reading.{Read, reading, answer, number_at, Reads}
use Rattle.leb128.specs.declared.field.NumberField.{NumberField}
use Rattle.leb128.specs.declared.field.NumberField.TheVariants.{Client, Clock, Count}
use Rattle.leb128.specs.Fields.{max_len, limit}
use Rattle.record.specs.Names.{name_count, name_fine}
use Rattle.record.specs.Format.{is_open, has_flag}
use Rattle.record.specs.Decoding.{then, lifted, id_at, name_fault, name_here, name_at, scope_at, end_at, fields, decode}
use Rattle.record.specs.Forms.{NumberForm, IdForm, NameForm, ScopeForm, Way, EndForm, RecordForm}
use Rattle.leb128.proofs.ToldLaws.{told}
use Rattle.record.proofs.NameLaws.{name_within, name_printable}
use Rattle.leb128.proofs.PartLaws.{past}
use Rattle.record.proofs.FormLaws.{complete}
use Rattle.source.specs.Meaning.{start_of, end_of}
use Rattle.source.specs.declared.weak.LinkSource.{LinkSource}

same_ok : {A E : Type 0} (x y : A) → ◌≡◌ {A = Result A E} (Ok x) (Ok y) → x ≡ y
same_ok x y e = cc

then_ok : {A B E : Type 0} (x : Result A E) (f : A → Result B E) (y : B) → then x f ≡ Ok y → (a : A) × (x ≡ Ok a) × (f a ≡ Ok y)
then_ok (Ok a) f y e = (a, refl, e)
then_ok (Err z) f y e = cc

pub lifted_ok : {A : Type 0} (x : Result A NumberFault) (y : A) → lifted x ≡ Ok y → x ≡ Ok y
lifted_ok (Ok a) y e = cc
lifted_ok (Err z) y e = cc

answer_ok : (p : ℕ) (r : ℕ × ℕ) (q : Read) → answer p q ≡ Ok r → q ≡ Ok r
answer_ok p r (Ok a) e = cc
answer_ok p r (Err c) e = cc

abbrev pub Front : (bs : List ℕ) (p n : ℕ) → (List ℕ → Type 0) → Type 0
Front bs p n P = (r : List ℕ) × (rest : List ℕ) × (drop p bs ≡ r ++ rest) × P r × (p + length r ≡ n)

pub number_out : (field : NumberField) (bs : List ℕ) (p v n : ℕ) → number_at field bs p ≡ Ok (v, n) → Front bs p (p + n) (λ a. NumberForm field a v)
number_out field bs p v n e =
    let R : Read → Type 0 = Reads (max_len field) (limit field) (drop p bs) in
    let t : R (Ok (v, n)) = subst R (answer_ok p (v, n) (reading (max_len field) (limit field) (drop p bs)) e) (told field (drop p bs)) in
    (t.0, t.1, t.2, (t.3, omega (arith, t.4, t.6), t.5, t.7), ap (λ q. p + q) t.4)

-- Two fronts, one after the other.
joined : (bs a b rest next : List ℕ) (p q : ℕ) → drop p bs ≡ a ++ next → p + length a ≡ q → drop q bs ≡ b ++ rest → drop p bs ≡ (a ++ b) ++ rest
joined bs a b rest next p q d l e =
    let x : next ≡ b ++ rest = sym (past bs a next p d) ∙ (ap (λ z. drop z bs) l ∙ e) in
    d ∙ (ap (λ z. a ++ z) x ∙ sym (append_assoc a b rest))

pub id_out : (bs : List ℕ) (p n : ℕ) (i : ℕ × ℕ) → id_at bs p ≡ Ok (i, n) → Front bs p n (λ r. IdForm r i.0 i.1)
id_out bs p n i e =
    let x = then_ok (number_at Client bs p) _ (i, n) e in
    let c : ℕ × ℕ = x.0 in
    let y = then_ok (number_at Clock bs (p + c.1)) _ (i, n) x.2 in
    let k : ℕ × ℕ = y.0 in
    let s : ((c.0, k.0), p + c.1 + k.1) ≡ (i, n) = same_ok _ _ y.2 in
    let u = number_out Client bs p c.0 c.1 x.1 in
    let w = number_out Clock bs (p + c.1) k.0 k.1 y.1 in
    let a : List ℕ = u.0 in
    let b : List ℕ = w.0 in (
      a ++ b,
      w.1,
      joined bs a b w.1 u.1 p (p + c.1) u.2 u.4 w.2,
      subst (λ q. IdForm (a ++ b) q.0 q.1) (ap (λ z. z.0) s) (a, b, refl, u.3, w.3),
      omega (arith, length-append a b, u.4, w.4, ap (λ z. z.1) s),
    )

cond_ok : {A E : Type 0} (t : Bool) (x : Result A E) (z : E) (y : A) → cond t x (Err z) ≡ Ok y → (t ≡ true) × (x ≡ Ok y)
cond_ok true x z y e = (refl, e)
cond_ok false x z y e = cc

here_ok : (bs : List ℕ) (start p k : ℕ) (o : Option RecordCause) (y : List ℕ × ℕ) → name_here bs start p k o ≡ Ok y → (o ≡ None) × ((take k (drop p bs), p + k) ≡ y)
here_ok bs start p k None y e = (refl, cc)
here_ok bs start p k (Some c) y e = cc

pub name_out : (bs : List ℕ) (p : ℕ) (y : List ℕ × ℕ) → name_at bs p ≡ Ok y → Front bs p y.1 (λ r. NameForm r y.0)
name_out bs p y e =
    let x = then_ok (lifted (number_at Count bs p)) _ y e in
    let c : ℕ × ℕ = x.0 in
    let q : ℕ = p + c.1 in
    let u = number_out Count bs p c.0 c.1 (lifted_ok (number_at Count bs p) c x.1) in
    let g = cond_ok (name_count c.0) _ _ y x.2 in
    let h = here_ok bs p q c.0 (name_fault c.0 (drop q bs)) y g.1 in
    let m : List ℕ = take c.0 (drop q bs) in
    let l : length m ≡ c.0 = length-take-le c.0 (drop q bs) (name_within c.0 (drop q bs) h.0) in
    let fine : name_fine m ≡ true = rw (l, g.0) (name_printable c.0 (drop q bs) h.0) in
    let a : List ℕ = u.0 in
    let rest : List ℕ = drop c.0 (drop q bs) in
    let num : NumberForm Count a (length m) = subst (NumberForm Count a) (sym l) u.3 in (
      a ++ m,
      rest,
      joined bs a m rest u.1 p q u.2 u.4 (sym (take-append-drop c.0 (drop q bs))),
      subst (λ z. NameForm (a ++ m) z) (ap (λ z. z.0) h.1) (a, refl, num, fine),
      omega (arith, length-append a m, u.4, l, ap (λ z. z.1) h.1),
    )

abbrev pub ScopeFront : (bs : List ℕ) (p : ℕ) (o t : Bool) → Scope × ℕ → Type 0
ScopeFront bs p o t y = (is_open y.0 ≡ o) × Way t y.0 × Front bs p y.1 (λ r. ScopeForm r y.0)

pub scope_out : (o t : Bool) (bs : List ℕ) (p : ℕ) (y : Scope × ℕ) → scope_at o t bs p ≡ Ok y → ScopeFront bs p o t y
scope_out false t bs p y e =
    let x = then_ok (lifted (id_at bs p)) _ y e in
    let i = x.0 in
    subst (ScopeFront bs p false t) (same_ok _ y x.2) (refl, tt, id_out bs p i.1 i.0 (lifted_ok (id_at bs p) i x.1))
scope_out true false bs p y e =
    let x = then_ok (lifted (id_at bs p)) _ y e in
    let i = x.0 in
    subst (ScopeFront bs p true false) (same_ok _ y x.2) (refl, refl, id_out bs p i.1 i.0 (lifted_ok (id_at bs p) i x.1))
scope_out true true bs p y e =
    let x = then_ok (name_at bs p) _ y e in
    let i = x.0 in
    subst (ScopeFront bs p true true) (same_ok _ y x.2) (refl, refl, name_out bs p i x.1)

pub end_out : (o many t : Bool) (bs : List ℕ) (p : ℕ) (s : Scope) (y : Scope × ℕ)
    → cond o (scope_at true t bs p) (cond many (scope_at false false bs p) (Ok (s, p))) ≡ Ok y
    → Front bs p y.1 (λ b. EndForm o many t b s y.0)
end_out true many t bs p s y e =
    let x = scope_out true t bs p y e in
    let f = x.2 in
    (f.0, f.1, f.2, (x.0, x.1, f.3), f.4)
end_out false true t bs p s y e =
    let x = scope_out false false bs p y e in
    let f = x.2 in
    (f.0, f.1, f.2, (x.0, f.3), f.4)
end_out false false t bs p s y e =
    let z = same_ok _ y e in
    ([], drop p bs, refl, (refl, sym (ap (λ q. q.0) z)), omega (arith, ap (λ q. q.1) z))

fields_out : (f : ℕ) (tail : List ℕ) (s e : Side) (n : ℕ) → fields f (7 ∷ f ∷ tail) ≡ Ok ((s, e), n)
    → (r : List ℕ) × (rest : List ℕ) × (7 ∷ f ∷ tail ≡ r ++ rest) × RecordForm r s e × (length r ≡ n)
fields_out f tail s e n g =
    let bs : List ℕ = 7 ∷ f ∷ tail in
    let x = then_ok (scope_at (has_flag 8 f) (has_flag 32 f) bs 2) _ ((s, e), n) g in
    let S : Scope × ℕ = x.0 in
    let y = then_ok (end_at f bs S) _ ((s, e), n) x.2 in
    let E : Scope × ℕ = y.0 in
    let z : (((S.0, has_flag 2 f), (E.0, has_flag 4 f)), E.1) ≡ ((s, e), n) = same_ok _ _ y.2 in
    let u = scope_out (has_flag 8 f) (has_flag 32 f) bs 2 S x.1 in
    let a : List ℕ = u.2.0 in
    let w = end_out (has_flag 16 f) (has_flag 1 f) (has_flag 32 f) bs S.1 S.0 E y.1 in
    let b : List ℕ = w.0 in
    let j : tail ≡ (a ++ b) ++ w.1 = joined bs a b w.1 u.2.1 2 S.1 u.2.2 u.2.4 w.2 in
    let form : RecordForm (7 ∷ f ∷ (a ++ b)) (S.0, has_flag 2 f) (E.0, has_flag 4 f) =
    (f, a, b, refl, u.0, u.1, u.2.3, refl, w.3, refl) in (
      7 ∷ f ∷ (a ++ b),
      w.1,
      ap (λ q. 7 ∷ f ∷ q) j,
      subst (λ q. RecordForm (7 ∷ f ∷ (a ++ b)) q.0 q.1) (ap (λ q. q.0) z) form,
      omega (arith, length-append a b, u.2.4, w.4, ap (λ q. q.1) z),
    )

pub sound : (bs : List ℕ) (s e : Side) (n : ℕ) → decode bs ≡ Ok ((s, e), n)
    → (r : List ℕ) × (rest : List ℕ) × (bs ≡ r ++ rest) × RecordForm r s e × (length r ≡ n)
sound [] s e n g = cc
sound (b ∷ []) s e n g = let z = (cond_ok (eqb b 7) _ _ _ g).1 in cc
sound (b ∷ f ∷ tail) s e n g =
    let c = cond_ok (eqb b 7) (fields f (b ∷ f ∷ tail)) _ _ g in
    let h : b ≡ 7 = eqb-true b 7 c.0 in
    let x = fields_out f tail s e n (subst (λ q. fields f (q ∷ f ∷ tail) ≡ Ok ((s, e), n)) h c.1) in
    (x.0, x.1, ap (λ q. q ∷ f ∷ tail) h ∙ x.2, x.3, x.4)

abbrev pub Exact : List ℕ → Result (LinkSource × ℕ) RecordFault → Type 0
Exact bs r = MatchResult r (λ p. (decode bs ≡ Ok ((start_of p.0, end_of p.0), p.1)) × (p.1 ≤ length bs)) (λ e. decode bs ≡ Err e)

pub formed_of : (bs : List ℕ) (r : Result (LinkSource × ℕ) RecordFault) → Exact bs r
    → IfOk r (λ p. (front : List ℕ) × (rest : List ℕ) × (bs ≡ front ++ rest) × RecordForm front (start_of p.0) (end_of p.0) × (length front ≡ p.1))
formed_of bs (Ok p) x = sound bs (start_of p.0) (end_of p.0) p.1 x.0
formed_of bs (Err e) x = tt

pub every_of : (bs : List ℕ) (r : Result (LinkSource × ℕ) RecordFault) → Exact bs r → (front rest : List ℕ) (s e : Side) → bs ≡ front ++ rest → RecordForm front s e
    → MatchResult r (λ p. (start_of p.0 ≡ s) × (end_of p.0 ≡ e) × (p.1 ≡ length front)) (λ _. ⊥)
every_of bs (Ok p) x front rest s e d f =
    let z = same_ok _ _ (sym x.0 ∙ (ap decode d ∙ complete front rest s e f)) in
    (ap (λ q. q.0.0) z, ap (λ q. q.0.1) z, ap (λ q. q.1) z)
every_of bs (Err y) x front rest s e d f = let z = sym x ∙ (ap decode d ∙ complete front rest s e f) in cc
