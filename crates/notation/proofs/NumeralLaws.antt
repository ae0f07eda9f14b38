use Rattle.std.proofs.Common.{◌≡◌, ℕ, ◌+◌, ◌-◌, ◌*◌, ◌^◌, ◌<◌, ◌≤◌, true, false, ◌&&◌, ltb, List, [], ◌∷◌, ◌++◌, length, get_or, drop, Some, None, Option, sym, refl, ap, ◌∙◌, arith}
use Rattle.std.specs.Option.{option_map}
use Rattle.std.proofs.lemmas.List.{drop_more, append_assoc}
use Rattle.std.proofs.lemmas.Bool.{lt-ltb, le-ltb, and_from, and_left, and_right, cond-true, cond-false}
use Rattle.notation.specs.Numerals.{and_then, is_digit, all_digits, value_from, number_in, all_numbers}

pub digits_more : (w : List ℕ) (n : ℕ) → n < length w → all_digits (drop n w) ≡ is_digit (get_or w n 0) && all_digits (drop (n + 1) w)
digits_more w n h = ap all_digits (drop_more w n 0 h)

pub digits_step : (w : List ℕ) (n : ℕ) → n < length w → is_digit (get_or w n 0) ≡ true → all_digits (drop n w) ≡ all_digits (drop (n + 1) w)
digits_step w n h e = digits_more w n h ∙ ap (λ t. t && all_digits (drop (n + 1) w)) e

pub value_more : (w : List ℕ) (n v : ℕ) → n < length w → value_from v (drop n w) ≡ value_from (v * 10 + (get_or w n 0 - 0x30)) (drop (n + 1) w)
value_more w n v h = ap (value_from v) (drop_more w n 0 h)

-- More digits make no number smaller.
pub value_grows : (v : ℕ) (ds : List ℕ) → v ≤ value_from v ds
value_grows v [] = omega arith
value_grows v (d ∷ ds) = omega (arith, value_grows (v * 10 + (d - 0x30)) ds)

-- What a word is not, and what it is.
pub no_digits : (w : List ℕ) → all_digits w ≡ false → None ≡ number_in w
no_digits w e =
    sym (cond-false ((ltb 0 (length w) && all_digits w) && ltb (value_from 0 w) (2 ^ 64)) _ _ (and_left _ _ (and_right (ltb 0 (length w)) (all_digits w) e)))

pub too_large : (w : List ℕ) → 2 ^ 64 ≤ value_from 0 w → None ≡ number_in w
too_large w h =
    sym (cond-false ((ltb 0 (length w) && all_digits w) && ltb (value_from 0 w) (2 ^ 64)) _ _ (and_right (ltb 0 (length w) && all_digits w) (ltb (value_from 0 w) (2 ^ 64)) (le-ltb (value_from 0 w) (2 ^ 64) h)))

pub number_read : (w : List ℕ) (v : ℕ) → 0 < length w → all_digits w ≡ true → v ≡ value_from 0 w → v < 2 ^ 64 → Some v ≡ number_in w
number_read w v l e s h =
    ap Some s
    ∙ sym (cond-true ((ltb 0 (length w) && all_digits w) && ltb (value_from 0 w) (2 ^ 64)) _ _
    (and_from _ _ (and_from (ltb 0 (length w)) (all_digits w) (lt-ltb 0 (length w) l) e) (lt-ltb (value_from 0 w) (2 ^ 64) (omega arith))))

more_by : (was one : List ℕ) (n : ℕ) (o : Option (List ℕ)) → one ≡ was ++ n ∷ [] → option_map (λ ns. one ++ ns) o ≡ option_map (λ ns. was ++ ns) (option_map (λ ns. n ∷ ns) o)
more_by was one n None e = refl
more_by was one n (Some ns) e = ap Some (ap (λ q. q ++ ns) e ∙ append_assoc was (n ∷ []) ns)

-- One number more, or a word that is none.
pub numbers_more : (was one w : List ℕ) (n : ℕ) (words ws : List (List ℕ)) (all : Option (List ℕ)) → words ≡ w ∷ ws → Some n ≡ number_in w → one ≡ was ++ n ∷ []
    → option_map (λ ns. was ++ ns) (all_numbers words) ≡ all → option_map (λ ns. one ++ ns) (all_numbers ws) ≡ all
numbers_more was one w n words ws all e p q i =
    more_by was one n (all_numbers ws) q
    ∙ (ap (λ o. option_map (λ ns. was ++ ns) (and_then o (λ n. option_map (λ ns. n ∷ ns) (all_numbers ws)))) p
    ∙ (ap (λ l. option_map (λ ns. was ++ ns) (all_numbers l)) (sym e) ∙ i))

pub no_number : (was w : List ℕ) (words ws : List (List ℕ)) (all : Option (List ℕ)) → words ≡ w ∷ ws → None ≡ number_in w
    → option_map (λ ns. was ++ ns) (all_numbers words) ≡ all → None ≡ all
no_number was w words ws all e p i =
    ap (λ o. option_map (λ ns. was ++ ns) (and_then o (λ n. option_map (λ ns. n ∷ ns) (all_numbers ws)))) p
    ∙ (ap (λ l. option_map (λ ns. was ++ ns) (all_numbers l)) (sym e) ∙ i)
