-- The units that were appended are read back.
use Rattle.std.proofs.Common.{◌≡◌, ℕ, zero, suc, ◌+◌, ◌-◌, ◌*◌, ◌/◌, ◌%◌, ◌^◌, ◌<◌, List, [], ◌∷◌, ◌++◌, map, length, get_or, drop, set, sym, refl, ap, ◌∙◌, ap₂, add-zero, arith}
use Rattle.std.specs.List.{range_with_len}
use Rattle.std.proofs.lemmas.List.{append_assoc, set_at, drop_more, ext_get_or, get_or-append_right}
use Rattle.std.proofs.lemmas.List.FromFn.{length-map-range_with_len, get_or-map-range_with_len, map-range_with_len_more}
use Rattle.content.specs.Runs.{run, word_at, slot, code_unit}
use Rattle.making.specs.Packed.{packed_at, words_of, packed}

-- A run is the list whose elements it has.
run_is : (f : ℕ → ℕ) (a : ℕ) (us : List ℕ) → ((i : ℕ) → i < length us → f (a + i) ≡ get_or us i 0) → run f a (a + length us) ≡ us
run_is f a us h =
    let n : a + length us - a ≡ length us = omega arith in
    let long : length (run f a (a + length us)) ≡ length us = length-map-range_with_len f a (a + length us - a) ∙ n in
    ext_get_or 0 (run f a (a + length us)) us long
    (λ i lt. let low : i < length us = omega arith in
    get_or-map-range_with_len f a (a + length us - a) i (a + i) 0 (omega arith) refl ∙ h i low)

-- The words that follow those of p.
pub words_back : (p us : List ℕ) (a : ℕ) → length p ≡ a → run (word_at (p ++ us)) a (a + length us) ≡ us
words_back p us a e =
    run_is (word_at (p ++ us)) a us
    (λ i lt. let at : a + i - a ≡ i = omega arith in get_or-append_right p us a (a + i) 0 e (omega arith) ∙ ap (λ k. get_or us k 0) at)

-- One more word.
pub pack_more : (ws : List ℕ) (f : ℕ → ℕ) (k : ℕ) → k < length ws → set (map f (range_with_len 0 k) ++ drop k ws) k (f k) ≡ map f (range_with_len 0 (k + 1)) ++ drop (k + 1) ws
pack_more ws f k lt =
    let q = map f (range_with_len 0 k) in
    let rest = drop (k + 1) ws in
    ap (λ zs. set (q ++ zs) k (f k)) (drop_more ws k 0 lt)
    ∙ set_at q (get_or ws k 0) rest (f k) k (length-map-range_with_len f 0 k)
    ∙ sym (append_assoc q (f k ∷ []) rest)
    ∙ ap (λ xs. xs ++ rest) (sym (map-range_with_len_more f 0 k k (omega arith)))

pub length-packed : (us : List ℕ) → length (packed us) ≡ words_of (length us)
length-packed us = length-map-range_with_len (λ k. packed_at us (4 * k)) 0 (words_of (length us))

slot_of : (a b c d j : ℕ) → a < 65536 → b < 65536 → c < 65536 → d < 65536 → j < 4
    → slot (a + b * 2 ^ 16 + c * 2 ^ 32 + d * 2 ^ 48) j ≡ get_or (a ∷ b ∷ c ∷ d ∷ []) j 0
slot_of a b c d zero ha hb hc hd lt = omega arith
slot_of a b c d (suc zero) ha hb hc hd lt = omega arith
slot_of a b c d (suc (suc zero)) ha hb hc hd lt = omega arith
slot_of a b c d (suc (suc (suc zero))) ha hb hc hd lt = omega arith
slot_of a b c d (suc (suc (suc (suc j)))) ha hb hc hd lt = absurd (omega arith)

one_of : (us : List ℕ) (i j : ℕ) → j < 4 → get_or (get_or us i 0 ∷ get_or us (i + 1) 0 ∷ get_or us (i + 2) 0 ∷ get_or us (i + 3) 0 ∷ []) j 0 ≡ get_or us (i + j) 0
one_of us i zero lt = ap (λ n. get_or us n 0) (sym (add-zero i))
one_of us i (suc zero) lt = refl
one_of us i (suc (suc zero)) lt = refl
one_of us i (suc (suc (suc zero))) lt = refl
one_of us i (suc (suc (suc (suc j)))) lt = absurd (omega arith)

module _ (us : List ℕ) (small : (i : ℕ) → get_or us i 0 < 65536) where
  -- The bits from 16 · j on of a packed word are its unit j.
  slot_back : (i j : ℕ) → j < 4 → slot (packed_at us i) j ≡ get_or us (i + j) 0
  slot_back i j lt =
      slot_of (get_or us i 0) (get_or us (i + 1) 0) (get_or us (i + 2) 0) (get_or us (i + 3) 0) j (small i) (small (i + 1)) (small (i + 2)) (small (i + 3)) lt
      ∙ one_of us i j lt

  -- The units that are packed into the words that follow those of p.
  pub text_back : (p : List ℕ) (a : ℕ) → length p ≡ a → run (code_unit (p ++ packed us)) (4 * a) (4 * a + length us) ≡ us
  text_back p a e =
      run_is (code_unit (p ++ packed us)) (4 * a) us
      (λ i lt.
      let n = words_of (length us) in
      let q : (4 * a + i) / 4 ≡ a + i / 4 = omega arith in
      let m : (4 * a + i) % 4 ≡ i % 4 = omega arith in
      let at : a + i / 4 - a ≡ i / 4 = omega arith in
      let place : 4 * (i / 4) + i % 4 ≡ i = omega arith in
      ap₂ (λ k j. slot (get_or (p ++ packed us) k 0) j) q m
      ∙ ap (λ w. slot w (i % 4)) (
      get_or-append_right p (packed us) a (a + i / 4) 0 e (omega arith)
      ∙ ap (λ k. get_or (packed us) k 0) at
      ∙ get_or-map-range_with_len (λ k. packed_at us (4 * k)) 0 n (i / 4) (i / 4) 0 (omega arith) (omega arith)
      )
      ∙ slot_back (4 * (i / 4)) (i % 4) (omega arith)
      ∙ ap (λ k. get_or us k 0) place)
