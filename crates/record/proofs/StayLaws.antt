use Rattle.std.proofs.Common.{◌≡◌, ℕ, zero, suc, ◌+◌, ◌≤◌, Bool, true, false, cond, eqb, List, [], ◌∷◌, ◌++◌, length, drop, Some, None, Ok, Err, Option, Result, refl, ap, ◌∙◌, arith}
use Rattle.std.proofs.lemmas.List.{append_assoc, drop-append-le, take-append-le, length-drop, length-append}
use Rattle.leb128.specs.declared.fault.NumberFault.{NumberFault}
use Rattle.record.specs.declared.fault.RecordCause.{RecordCause}
use Rattle.record.specs.declared.fault.RecordCause.TheVariants as rec
use Rattle.record.specs.declared.fault.RecordFault.{RecordFault}
use Rattle.record.specs.declared.fault.RecordFault.TheVariants.{Own}
use Rattle.source.specs.Meaning.{Scope, Side}
use Rattle.leb128.specs.declared.fault.NumberCause.TheVariants as num
use Rattle.leb128.specs.Reading.{Read, reading, answer, number_at, Reads}
use Rattle.leb128.specs.declared.field.NumberField.{NumberField}
use Rattle.leb128.specs.declared.field.NumberField.TheVariants.{Client, Clock, Count}
use Rattle.leb128.specs.Fields.{max_len, limit}
use Rattle.record.specs.Decoding.{then, lifted, id_at, name_fault, name_here, name_at, scope_at, end_at, fields, decode}
use Rattle.record.specs.Names.{name_count}
use Rattle.record.specs.Format.{has_flag}
use Rattle.record.specs.Settled.{last_number, last_own, last_record, settled}
use Rattle.record.specs.Forms.{NumberForm}
use Rattle.leb128.proofs.ToldLaws.{told, only}
use Rattle.record.proofs.NameLaws.{named, name_within}
use Rattle.record.proofs.SoundLaws.{Front, number_out, scope_out, lifted_ok}

-- One reading after another stays, if each does.
then-stays : {A B E : Type 0} (last : E → Bool) (x y : Result A E) (f g : A → Result B E) → settled last (then x f) ≡ true
    → (settled last x ≡ true → y ≡ x) → ((a : A) → x ≡ Ok a → settled last (f a) ≡ true → g a ≡ f a) → then y g ≡ then x f
then-stays last (Ok a) y f g s h k = ap (λ q. then q g) (h refl) ∙ k a refl s
then-stays last (Err e) y f g s h k = ap (λ q. then q g) (h s)

lifted-settled : {A : Type 0} (x : Result A NumberFault) → settled last_record (lifted x) ≡ true → settled last_number x ≡ true
lifted-settled (Ok a) s = s
lifted-settled (Err e) s = s

reads_more : (most limit : ℕ) (bs more : List ℕ) (p : ℕ) (q : Read) → Reads most limit bs q → settled last_number (answer p q) ≡ true → Reads most limit (bs ++ more) q
reads_more most limit bs more p (Ok (v, n)) t s =
    (t.0, t.1 ++ more, ap (λ z. z ++ more) t.2 ∙ append_assoc t.0 t.1 more, t.3, t.4, t.5, t.6, t.7)
reads_more most limit bs more p (Err num.Ends) t s = cc
reads_more most limit bs more p (Err num.Large) t s =
    (t.0, t.1, t.2 ++ more, ap (λ z. z ++ more) t.3 ∙ append_assoc t.0 (t.1 ∷ t.2) more, t.4, t.5, t.6, t.7)

number_stays : (field : NumberField) (bs more : List ℕ) (p : ℕ) → p ≤ length bs → settled last_number (number_at field bs p) ≡ true
    → number_at field (bs ++ more) p ≡ number_at field bs p
number_stays field bs more p l s =
    let m : ℕ = max_len field in
    let h : ℕ = limit field in
    ap (λ q. answer p (reading m h q)) (drop-append-le p bs more l)
    ∙ ap (answer p) (only m h (drop p bs ++ more) (reading m h (drop p bs)) (reads_more m h (drop p bs) more p (reading m h (drop p bs)) (told field (drop p bs)) s))

-- What a front takes lies within the bytes.
front-within : (bs : List ℕ) (p n : ℕ) (P : List ℕ → Type 0) → p ≤ length bs → Front bs p n P → n ≤ length bs
front-within bs p n P l f = omega (arith, length-append f.0 f.1, ap length f.2, length-drop p bs, f.4)

id_stays : (bs more : List ℕ) (p : ℕ) → p ≤ length bs → settled last_number (id_at bs p) ≡ true → id_at (bs ++ more) p ≡ id_at bs p
id_stays bs more p l s =
    then-stays last_number (number_at Client bs p) _ _ _ s (number_stays Client bs more p l) (λ c e t.
    then-stays last_number (number_at Clock bs (p + c.1)) _ _ _ t
    (number_stays Clock bs more (p + c.1) (front-within bs p (p + c.1) (λ a. NumberForm Client a c.0) l (number_out Client bs p c.0 c.1 e)))
    (λ k x y. refl))

abbrev is_last : Option RecordCause → Bool
is_last None = true
is_last (Some c) = last_own c

fault_stays : (k : ℕ) (bs more : List ℕ) → is_last (name_fault k bs) ≡ true → name_fault k (bs ++ more) ≡ name_fault k bs
fault_stays zero bs more s = refl
fault_stays (suc k) [] more s = cc
fault_stays (suc k) (b ∷ bs) more s = grind (arith, fault_stays k bs more)

here_last : (bs : List ℕ) (start p k : ℕ) (o : Option RecordCause) → settled last_record (name_here bs start p k o) ≡ true → is_last o ≡ true
here_last bs start p k None s = refl
here_last bs start p k (Some c) s = s

here_stays : (bs more : List ℕ) (start p k : ℕ) (o : Option RecordCause) → p ≤ length bs → (o ≡ None → k ≤ length (drop p bs))
    → name_here (bs ++ more) start p k o ≡ name_here bs start p k o
here_stays bs more start p k None l h = rw (drop-append-le p bs more l, take-append-le k (drop p bs) more (h refl)) refl
here_stays bs more start p k (Some c) l h = refl

either : {X : Type 0} (t : Bool) (x y : Result X RecordFault) (z : RecordFault) → settled last_record (cond t x (Err z)) ≡ true
    → (settled last_record x ≡ true → y ≡ x) → cond t y (Err z) ≡ cond t x (Err z)
either true x y z s h = h s
either false x y z s h = refl

name_stays : (bs more : List ℕ) (p : ℕ) → p ≤ length bs → settled last_record (name_at bs p) ≡ true → name_at (bs ++ more) p ≡ name_at bs p
name_stays bs more p l s =
    then-stays last_record (lifted (number_at Count bs p)) (lifted (number_at Count (bs ++ more) p)) (named bs p) (named (bs ++ more) p) s
    (λ t. ap lifted (number_stays Count bs more p l (lifted-settled (number_at Count bs p) t)))
    (λ c e t.
    let q : ℕ = p + c.1 in
    let w : q ≤ length bs = front-within bs p (p + c.1) (λ a. NumberForm Count a c.0) l (number_out Count bs p c.0 c.1 (lifted_ok (number_at Count bs p) c e)) in
    let o : Option RecordCause = name_fault c.0 (drop q bs) in
    either (name_count c.0) (name_here bs p q c.0 o) _ (Own rec.Name p) t
    (λ u. rw (drop-append-le q bs more w, fault_stays c.0 (drop q bs) more (here_last bs p q c.0 o u)) (here_stays bs more p q c.0 o w (name_within c.0 (drop q bs)))))

scope_stays : (o t : Bool) (bs more : List ℕ) (p : ℕ) → p ≤ length bs → settled last_record (scope_at o t bs p) ≡ true → scope_at o t (bs ++ more) p ≡ scope_at o t bs p
scope_stays false t bs more p l s =
    then-stays last_record (lifted (id_at bs p)) _ _ _ s (λ u. ap lifted (id_stays bs more p l (lifted-settled (id_at bs p) u))) (λ i x y. refl)
scope_stays true false bs more p l s =
    then-stays last_record (lifted (id_at bs p)) _ _ _ s (λ u. ap lifted (id_stays bs more p l (lifted-settled (id_at bs p) u))) (λ i x y. refl)
scope_stays true true bs more p l s = then-stays last_record (name_at bs p) _ _ _ s (name_stays bs more p l) (λ i x y. refl)

end_stays : (o many t : Bool) (bs more : List ℕ) (p : ℕ) (s : Scope) → p ≤ length bs
    → settled last_record (cond o (scope_at true t bs p) (cond many (scope_at false false bs p) (Ok (s, p)))) ≡ true
    → cond o (scope_at true t (bs ++ more) p) (cond many (scope_at false false (bs ++ more) p) (Ok (s, p))) ≡ cond o (scope_at true t bs p) (cond many (scope_at false false bs p) (Ok (s, p)))
end_stays true many t bs more p s l h = scope_stays true t bs more p l h
end_stays false true t bs more p s l h = scope_stays false false bs more p l h
end_stays false false t bs more p s l h = refl

fields_stay : (f : ℕ) (bs more : List ℕ) → 2 ≤ length bs → settled last_record (fields f bs) ≡ true → fields f (bs ++ more) ≡ fields f bs
fields_stay f bs more l s =
    then-stays last_record (scope_at (has_flag 8 f) (has_flag 32 f) bs 2) _ _ _ s (scope_stays (has_flag 8 f) (has_flag 32 f) bs more 2 l) (λ a e t.
    then-stays last_record (end_at f bs a) _ _ _ t
    (end_stays (has_flag 16 f) (has_flag 1 f) (has_flag 32 f) bs more a.1 a.0 (front-within bs 2 a.1 _ l (scope_out (has_flag 8 f) (has_flag 32 f) bs 2 a e).2))
    (λ b x y. refl))

-- A record of one byte is settled only where that is not its kind.
swap : (t : Bool) (x : Result ((Side × Side) × ℕ) RecordFault) → settled {A = (Side × Side) × ℕ} last_record (cond t (Err (Own rec.Ends 1)) (Err (Own rec.Kind 0))) ≡ true
    → cond t x (Err (Own rec.Kind 0)) ≡ cond t (Err (Own rec.Ends 1)) (Err (Own rec.Kind 0))
swap true x s = cc
swap false x s = refl

-- What is read stays so, and so does any fault but that the bytes end, whatever bytes come after.
pub decode-stays : (bs more : List ℕ) → settled last_record (decode bs) ≡ true → decode (bs ++ more) ≡ decode bs
decode-stays [] more s = cc
decode-stays (b ∷ []) [] s = refl
decode-stays (b ∷ []) (f ∷ more) s = swap (eqb b 7) (fields f (b ∷ f ∷ more)) s
decode-stays (b ∷ f ∷ bs) more s =
    either (eqb b 7) (fields f (b ∷ f ∷ bs)) (fields f (b ∷ f ∷ (bs ++ more))) (Own rec.Kind 0) s (fields_stay f (b ∷ f ∷ bs) more (omega arith))
