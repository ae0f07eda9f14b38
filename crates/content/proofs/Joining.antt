-- The pieces of a content make the whole, from the laws alone.
use Rattle.std.proofs.Common.{◌≡◌, ℕ, ◌+◌, ◌-◌, ◌<◌, ◌≤◌, true, ◌&&◌, ltb, List, [], ◌∷◌, ◌++◌, map, length, take, drop, set, sym, ap, ◌∙◌, ap₂, add-zero, arith, ltb-true}
use Rattle.std.specs.List.{flat_map}
use Rattle.std.proofs.lemmas.List.{append-nil, drop_all, take_more_set, take_all, length-set}
use Rattle.std.proofs.lemmas.Bool.{and_parts}
use Rattle.content.specs.declared.content.Content.{Ghosts}
use Rattle.content.specs.Lawful.{Lawful}
use Rattle.content.specs.Pieces.{rising, cut_up, lengths, MakeWhole}

-- What the first of rising offsets says.
pub rising_first : (low k high : ℕ) (ks : List ℕ) → rising low (k ∷ ks) high ≡ true → (low < k) × (k < high) × (rising k ks high ≡ true)
rising_first low k high ks e =
    let both = and_parts (ltb low k && ltb k high) (rising k ks high) e in
    let two = and_parts (ltb low k) (ltb k high) both.0 in
    (ltb-true low k two.0, ltb-true k high two.1, both.1)

module _ {C : Type 0} (K : Ghosts C) (L : Lawful K) (high : ℕ) where
  pieces_sized : (done : ℕ) (ks : List ℕ) (c : C) → rising done ks high ≡ true → K.size c + done ≡ high → map K.size (cut_up K done ks c) ≡ lengths done ks high
  pieces_sized done [] c up sum = let e : K.size c ≡ high - done = omega arith in ap (λ n. n ∷ []) e
  pieces_sized done (k ∷ ks) c up sum =
      let n = rising_first done k high ks up in
      let low : 0 < k - done = omega arith in
      let below : k - done < K.size c = omega arith in
      let half = L.halves (k - done) c low below in
      let front : K.size (K.fore (k - done) c) ≡ k - done = half.front in
      let sums = half.sums in
      let rest : K.size (K.rear (k - done) c) + k ≡ high = omega arith in
      ap₂ (λ m ms. m ∷ ms) front (pieces_sized k ks (K.rear (k - done) c) n.2 rest)

  pieces_whole : (t : List ℕ) (done : ℕ) (ks : List ℕ) (c : C) → rising done ks high ≡ true → K.size c + done ≡ high → K.reach c ≤ length t → flat_map (K.units t) (cut_up K done ks c) ≡ K.units t c
  pieces_whole t done [] c up sum fit = append-nil (K.units t c)
  pieces_whole t done (k ∷ ks) c up sum fit =
      let n = rising_first done k high ks up in
      let low : 0 < k - done = omega arith in
      let below : k - done < K.size c = omega arith in
      let half = L.halves (k - done) c low below in
      let front : K.size (K.fore (k - done) c) ≡ k - done = half.front in
      let sums = half.sums in
      let rest : K.size (K.rear (k - done) c) + k ≡ high = omega arith in
      let right = half.right_reach in
      let fits : K.reach (K.rear (k - done) c) ≤ length t = omega arith in
      ap (λ us. K.units t (K.fore (k - done) c) ++ us) (pieces_whole t k ks (K.rear (k - done) c) n.2 rest fits)
      ∙ half.joins t fit

-- The pieces of a cut at offsets that rise inside the content.
module _ {C : Type 0} (K : Ghosts C) (L : Lawful K) (c : C) (ks : List ℕ) (up : rising 0 ks (K.size c) ≡ true) (ps : List C) (is : ps ≡ cut_up K 0 ks c) where
  pub all_sized : map K.size ps ≡ lengths 0 ks (K.size c)
  all_sized = ap (map K.size) is ∙ pieces_sized K L (K.size c) 0 ks c up (add-zero (K.size c))

  pub all_whole : MakeWhole K ps c
  all_whole t fit = ap (flat_map (K.units t)) is ∙ pieces_whole K L (K.size c) t 0 ks c up (add-zero (K.size c)) fit

-- The first i of the offsets are cut: what is still to be cut, and what is written.
pub record Cutting {C : Type 0} (K : Ghosts C) (c : C) (ks : List ℕ) (i : ℕ) (rest : C) (done : ℕ) (ps : List C) : Type 0 where
  pub rise : rising done (drop i ks) (K.size c) ≡ true
  pub sizes : K.size rest + done ≡ K.size c
  pub exact : take i ps ++ cut_up K done (drop i ks) rest ≡ cut_up K 0 ks c

module _ {C : Type 0} (K : Ghosts C) (c : C) (ks : List ℕ) (i : ℕ) (rest : C) (done : ℕ) (ps : List C) (w : Cutting K c ks i rest done ps) where
  -- All are cut, and the rest is the last piece.
  pub all_cut : length ks ≤ i → length ps ≡ i + 1 → set ps i rest ≡ cut_up K 0 ks c
  all_cut le e =
      let lt : i < length ps = omega arith in
      let long : length (set ps i rest) ≤ i + 1 = simp length-set (omega arith) in
      sym (take_all (i + 1) (set ps i rest) long) ∙ take_more_set ps i rest lt
      ∙ ap (λ xs. take i ps ++ cut_up K done xs rest) (sym (drop_all i ks le))
      ∙ w.exact
