use Rattle.std.proofs.Common.{◌≡◌, ℕ, ◌+◌, ◌*◌, ◌%◌, ◌^◌, ◌<◌, ◌≤◌, true, List, [], ◌∷◌, ◌++◌, length, Ok, Err, sym, refl, ap, ◌∙◌, inl, inr, pow-suc, arith}
use Rattle.std.proofs.lemmas.List.{append-nil, append_assoc, length_push}
use Rattle.std.proofs.lemmas.Bool.{cases_lt, cases_eq}
use Rattle.std.proofs.lemmas.Bool.Decides.{nat_tests}
use Rattle.leb128.specs.Leb128.{sum_of, form}
use Rattle.leb128.specs.declared.field.NumberField.{NumberField}
use Rattle.leb128.specs.Fields.{max_len, limit}
use Rattle.leb128.proofs.FieldLaws.{field_some}
use Rattle.leb128.specs.declared.fault.NumberCause.TheVariants.{Ends, Large}
use Rattle.leb128.specs.Reading.{Read, read_from, reading, goes_on, Reads}
use Rattle.leb128.proofs.ReadLaws.{at_last, at_more, at_large, at_most, accepts, from_start}

-- One byte more, after bytes that go on.
sum_push : (p : List ℕ) (b : ℕ) → sum_of (p ++ (b ∷ [])) ≡ sum_of p + (b % 128) * 128 ^ length p
sum_push [] b = omega arith
sum_push (x ∷ p) b = rw (sum_push p b, pow-suc) (omega arith)

goes_push : (p : List ℕ) (b : ℕ) → goes_on p ≡ true → 128 ≤ b → goes_on (p ++ (b ∷ [])) ≡ true
goes_push [] b g h = grind (arith, nat_tests)
goes_push (x ∷ p) b g h = grind (arith, nat_tests, goes_push p b)

form_push : (p : List ℕ) (b : ℕ) → goes_on p ≡ true → b < 128 → form (p ++ (b ∷ [])) ≡ true
form_push [] b g h = grind (arith, nat_tests)
form_push (x ∷ []) b g h = grind (arith, nat_tests)
form_push (x ∷ y ∷ p) b g h = grind (arith, nat_tests, form_push (y ∷ p) b)

-- What reading comes to is so defined.
told_from : (most limit : ℕ) (p bs : List ℕ) → goes_on p ≡ true → length p < most → sum_of p < limit
    → Reads most limit (p ++ bs) (read_from most limit (length p) (sum_of p) bs)
told_from most limit p [] g m h = rw append-nil (g, m, h)
told_from most limit p (b ∷ bs) g m h =
    let k : ℕ = length p in
    let v : ℕ = sum_of p in
    let w : ℕ = v + (b % 128) * 128 ^ k in
    let q : List ℕ = p ++ (b ∷ []) in
    let e : sum_of q ≡ w = sum_push p b in
    let n : length q ≡ k + 1 = length_push p b in
    let a : q ++ bs ≡ p ++ (b ∷ bs) = append_assoc p (b ∷ []) bs in
    elim (cases_lt w limit) [
      | inl x ↦
          elim (cases_lt b 128) [
            | inl y ↦ rw (at_last most limit k v b bs x y) (q, bs, sym a, form_push p b g y, n, e, omega arith, x)
            | inr y ↦
                elim (cases_eq (k + 1) most) [
                  | inl z ↦ rw (at_most most limit k v b bs x y z) (p, b, bs, refl, g, m, h, inr (y, z))
                  | inr z ↦ rw (at_more most limit k v b bs x y z, ← a, ← n, ← e) (told_from most limit q bs (goes_push p b g y) (omega (arith, z)) (omega arith))
                ]
          ]
      | inr x ↦ rw (at_large most limit k v b bs x) (p, b, bs, refl, g, m, h, inl (omega arith))
    ]

pub told_within : (most limit : ℕ) (bs : List ℕ) → 0 < most → 0 < limit → Reads most limit bs (reading most limit bs)
told_within most limit bs m h = told_from most limit [] bs refl m h

pub told : (field : NumberField) (bs : List ℕ) → Reads (max_len field) (limit field) bs (reading (max_len field) (limit field) bs)
told field bs = told_within (max_len field) (limit field) bs (field_some field).0 (field_some field).1

-- And nothing else is.
pub only : (most limit : ℕ) (bs : List ℕ) (r : Read) → Reads most limit bs r → reading most limit bs ≡ r
only most limit bs (Ok (v, n)) t =
    ap (reading most limit) t.2 ∙ (accepts most limit t.0 t.1 t.3 (omega (arith, t.4, t.6)) (omega (arith, t.5, t.7))
    ∙ (ap (λ x. Ok (x, length t.0)) t.5 ∙ ap (λ x. Ok (v, x)) t.4))
only most limit bs (Err Ends) t = ap (reading most limit) (sym (append-nil bs)) ∙ from_start most limit bs [] t.0 t.1 t.2
only most limit bs (Err Large) t =
    let p : List ℕ = t.0 in
    let b : ℕ = t.1 in
    ap (reading most limit) t.3 ∙ (from_start most limit p (b ∷ t.2) t.4 t.5 t.6
    ∙ elim t.7 [
      | inl x ↦ at_large most limit (length p) (sum_of p) b t.2 (omega (arith, sum_push p b))
      | inr x ↦ elim (cases_lt (sum_of p + (b % 128) * 128 ^ length p) limit) [
        | inl y ↦ at_most most limit (length p) (sum_of p) b t.2 y x.0 x.1
        | inr y ↦ at_large most limit (length p) (sum_of p) b t.2 y
      ]
    ])
