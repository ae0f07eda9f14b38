use Rattle.std.proofs.Common.{◌≡◌, ℕ, ◌+◌, ◌<◌, ◌≤◌, ltb, leb, List, [], ◌∷◌, ◌++◌, length, get_or, take, Some, decimal, sym, ap, ◌∙◌}
use Rattle.std.proofs.lemmas.List.{take_more, flat_map_more}
use Rattle.std.proofs.lemmas.Bool.{cond-true, le-leb, lt-ltb}
use Rattle.content.specs.Meaning.{told}
use Rattle.transcript.specs.Pieces.{units_text}

same_some : (u v : ℕ) → Some u ≡ Some v → u ≡ v
same_some u v e = cc

-- The unit that a content which fits tells below its length.
pub unit_told : (x l n k u : ℕ) (us : List ℕ) → x ≤ l → k < n → Some u ≡ told (leb x l) n us k → u ≡ get_or us k 0
unit_told x l n k u us h i e =
    same_some u (get_or us k 0) (e ∙ (cond-true (leb x l) _ _ (le-leb x l h) ∙ cond-true (ltb k n) _ _ (lt-ltb k n i)))

-- One unit more, with a blank before it.
pub units_more : (before was next us : List ℕ) (k u : ℕ) → k < length us → u ≡ get_or us k 0 → was ≡ before ++ units_text (take k us)
    → next ≡ was ++ 0x20 ∷ decimal u → next ≡ before ++ units_text (take (k + 1) us)
units_more before was next us k u h a e p =
    let f : ℕ → List ℕ = λ v. 0x20 ∷ decimal v in
    p ∙ (ap (λ z. z ++ f u) e
    ∙ (flat_map_more f before (take k us) u
    ∙ (ap (λ z. before ++ units_text (take k us ++ z ∷ [])) a ∙ ap (λ z. before ++ units_text z) (sym (take_more us k 0 h)))))
