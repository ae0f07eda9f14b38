use Rattle.std.proofs.Common.{◌≡◌, ℕ, true, false, List, [], ◌∷◌, ◌++◌, sym, refl, ap, ◌∙◌, subst, inl, inr}
use Rattle.std.proofs.lemmas.List.{append_assoc, append-nil}
use Rattle.std.proofs.lemmas.Bool.{cases_Bool}
use Rattle.record.specs.Decoding.{decode}
use Rattle.record.specs.Settled.{settled, last_record, SettledAt}
use Rattle.record.proofs.StayLaws.{decode-stays}

-- From a front that settles nothing, on to the byte that does.
settled-after : (front rest : List ℕ) → settled last_record (decode front) ≡ false → settled last_record (decode (front ++ rest)) ≡ true → SettledAt (front ++ rest)
settled-after front [] u s = let z = rw append-nil at s in cc
settled-after front (b ∷ rest) u s =
    let a : (front ++ (b ∷ [])) ++ rest ≡ front ++ (b ∷ rest) = append_assoc front (b ∷ []) rest in
    elim (cases_Bool (settled last_record (decode (front ++ (b ∷ []))))) [
      | inl t ↦ (front, b, rest, refl, u, sym (ap decode (sym a) ∙ decode-stays (front ++ (b ∷ [])) rest t))
      | inr t ↦ subst SettledAt a (settled-after (front ++ (b ∷ [])) rest t (subst (λ q. settled last_record (decode q) ≡ true) (sym a) s))
    ]

pub settled_first : (bs : List ℕ) → settled last_record (decode bs) ≡ true → SettledAt bs
settled_first bs s = settled-after [] bs refl s
