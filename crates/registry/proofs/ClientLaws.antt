use Rattle.std.proofs.Common.{◌≡◌, ℕ, suc, ◌+◌, Bool, true, false, cond, eqb, List, [], ◌∷◌, ◌++◌, map, get_or, set, Some, None, Option, MatchOption, sym, refl, ap, subst, arith}
use Rattle.std.specs.Option.{option_map}
use Rattle.std.proofs.lemmas.Bool.Decides.{nat_tests}
use Rattle.law.specs.Plain.{put, with_new}
use Rattle.registry.specs.declared.clients.Client.{Client}
use Rattle.registry.specs.Places.{place_by}
use Rattle.registry.specs.Clients.{is_client, count_in, CountStands, raised, credited, Credit}

-- A client's count stands at its place.
pub count_at : (c : ℕ) (es : List Client) (o : Option ℕ) → o ≡ place_by (is_client c) es → CountStands es o (count_in c es)
count_at c es o e = subst (λ p. CountStands es p (count_in c es)) (sym e) (here es)
  where
    step : (t : Bool) (x : Client) (xs : List Client) (p : Option ℕ) (m : ℕ) → CountStands xs p m
        → CountStands (x ∷ xs) (cond t (Some 0) (option_map suc p)) (cond t x.count m)
    step true x xs p m h = (omega arith, λ d. refl)
    step false x xs None m h = h
    step false x xs (Some k) m h = (omega (arith, h.0), h.1)

    here : (xs : List Client) → CountStands xs (place_by (is_client c) xs) (count_in c xs)
    here [] = refl
    here (x ∷ xs) = step (is_client c x) x xs (place_by (is_client c) xs) (count_in c xs) (here xs)

-- The list more has the entry at a place raised, or has a new one last.
abbrev pub Raises : ℕ → ℕ → List Client → Option ℕ → List Client → Type 0
Raises c n es o more = MatchOption o (more ≡ es ++ record { number = c; count = n } ∷ []) (λ k. (d : Client) → more ≡ set es k (raised n (get_or es k d)))

-- So does a credit, by its client's place.
pub credited_at : (c n : ℕ) (es : List Client) (o : Option ℕ) → o ≡ place_by (is_client c) es → Raises c n es o (credited c n es)
credited_at c n es o e = subst (λ p. Raises c n es p (credited c n es)) (sym e) (here es)
  where
    step : (t : Bool) (x : Client) (xs more : List Client) (p : Option ℕ) → Raises c n xs p more
        → Raises c n (x ∷ xs) (cond t (Some 0) (option_map suc p)) (cond t (raised n x ∷ xs) (x ∷ more))
    step true x xs more p h = λ d. refl
    step false x xs more None h = ap (λ q. x ∷ q) h
    step false x xs more (Some k) h = λ d. ap (λ q. x ∷ q) (h d)

    here : (xs : List Client) → Raises c n xs (place_by (is_client c) xs) (credited c n xs)
    here [] = refl
    here (x ∷ xs) = step (is_client c x) x xs (credited c n xs) (place_by (is_client c) xs) (here xs)

-- The order of first insertions, and the counts.
pub order_kept : (c n : ℕ) (es : List Client) → map (λ x. x.number) (credited c n es) ≡ with_new eqb c (map (λ x. x.number) es)
order_kept c n [] = refl
order_kept c n (e ∷ es) = step (is_client c e) (order_kept c n es)
  where
    step : (t : Bool) → map (λ x. x.number) (credited c n es) ≡ with_new eqb c (map (λ x. x.number) es)
        → map (λ x. x.number) (cond t (raised n e ∷ es) (e ∷ credited c n es)) ≡ cond t (map (λ x. x.number) (e ∷ es)) (e.number ∷ with_new eqb c (map (λ x. x.number) es))
    step true h = refl
    step false h = ap (λ q. e.number ∷ q) h

pub counts_kept : (c n : ℕ) (es : List Client) (d : ℕ) → count_in d (credited c n es) ≡ put c (count_in c es + n) (λ m. count_in m es) d
counts_kept c n [] d = grind (arith, nat_tests)
counts_kept c n (e ∷ es) d = step (is_client c e) refl (counts_kept c n es d)
  where
    step : (t : Bool) → is_client c e ≡ t → count_in d (credited c n es) ≡ cond (eqb d c) (count_in c es + n) (count_in d es)
        → count_in d (cond t (raised n e ∷ es) (e ∷ credited c n es)) ≡ cond (eqb d c) (cond t e.count (count_in c es) + n) (count_in d (e ∷ es))
    step true p h = grind (arith, nat_tests)
    step false p h = grind (arith, nat_tests)

pub credit_law : (c n : ℕ) (es : List Client) → Credit c n es
credit_law c n es = record { order = order_kept c n es; counts = counts_kept c n es }
