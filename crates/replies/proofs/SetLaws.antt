use Rattle.std.proofs.Common.{◌≡◌, ℕ, ◌+◌, ◌/◌, ◌%◌, ◌^◌, Bool, cond, List, [], ◌∷◌, ◌++◌, decimal, filter, sym, refl, ap, ◌∙◌, arith}
use Rattle.std.specs.List.{range_with_len}
use Rattle.std.proofs.lemmas.List.{append-nil, flat_map_more, map-id}
use Rattle.std.proofs.lemmas.Bool.{eq-eqb, ne_eqb, cond-true, cond-false}
use Rattle.std.proofs.lemmas.List.FromFn.{filter_of_map_range_with_len_more}
use Rattle.law.specs.Faces.{bit}
use Rattle.replies.specs.Sets.{links_below, listed}

-- What stands between these numbers and one more.
abbrev pub separator_after : List ℕ → List ℕ
separator_after [] = []
separator_after (n ∷ ns) = 0x2C ∷ []

-- One link more to look at.
links_more : (n links : ℕ) → links_below (n + 1) links ≡ links_below n links ++ cond (bit n links) (n ∷ []) []
unfolding links_below
links_more n links =
    let p : ℕ → Bool = λ k. bit k links in
    ap (filter p) (sym (map-id (range_with_len 0 (n + 1))))
    ∙ (filter_of_map_range_with_len_more p (λ k. k) 0 n n (omega arith)
    ∙ ap (λ q. filter p q ++ cond (bit n links) (n ∷ []) []) (map-id (range_with_len 0 n)))

-- One number more to list.
listed_push : (ns : List ℕ) (n : ℕ) → listed (ns ++ n ∷ []) ≡ listed ns ++ (separator_after ns ++ decimal n)
listed_push [] n = append-nil (decimal n)
listed_push (m ∷ ms) n = sym (flat_map_more (λ k. 0x2C ∷ decimal k) (decimal m) ms n)

separator_push : (ns : List ℕ) (n : ℕ) → 0x2C ∷ [] ≡ separator_after (ns ++ n ∷ [])
separator_push [] n = refl
separator_push (m ∷ ms) n = refl

-- A link that is in the set, and one that is not.
pub set_more : (n links : ℕ) (separator : List ℕ) → links / 2 ^ n % 2 ≡ 1 → separator ≡ separator_after (links_below n links)
    → (listed (links_below n links) ++ (separator ++ decimal n) ≡ listed (links_below (n + 1) links)) × (0x2C ∷ [] ≡ separator_after (links_below (n + 1) links))
unfolding bit
set_more n links separator b f =
    let ns : List ℕ = links_below n links in
    let more : links_below (n + 1) links ≡ ns ++ n ∷ [] = links_more n links ∙ ap (λ q. ns ++ q) (cond-true (bit n links) (n ∷ []) [] (eq-eqb (links / 2 ^ n % 2) 1 b)) in (
      ap (λ q. listed ns ++ (q ++ decimal n)) f ∙ (sym (listed_push ns n) ∙ ap listed (sym more)),
      separator_push ns n ∙ ap separator_after (sym more),
    )

pub set_same : (n links : ℕ) → (links / 2 ^ n % 2 ≡ 1 → ⊥) → links_below (n + 1) links ≡ links_below n links
unfolding bit
set_same n links b =
    links_more n links ∙ (ap (λ q. links_below n links ++ q) (cond-false (bit n links) (n ∷ []) [] (ne_eqb (links / 2 ^ n % 2) 1 b)) ∙ append-nil (links_below n links))
