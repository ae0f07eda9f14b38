-- Whether a gap lies inside a block.
use Rattle.std.proofs.Common.{◌≡◌, ℕ, ◌+◌, ◌-◌, ◌<◌, ◌≤◌, Bool, true, false, cond, ◌&&◌, ◌||◌, ltb, ◌≢◌, ◌⊎◌, List, [], ◌∷◌, ◌++◌, sym, refl, ap, ◌∙◌, inl, inr, arith}
use Rattle.std.proofs.lemmas.Bool.{cases_eq, cases_lt, true≢false}
use Rattle.std.proofs.lemmas.Bool.Decides.{nat_tests}
use Rattle.content.specs.declared.content.Content.{Ghosts}
use Rattle.content.specs.Lawful.{Lawful}
use Rattle.table.specs.Cells.{Face, Cell, cell}
use Rattle.table.specs.Cuts.{left_piece, right_piece}
use Rattle.table.specs.Lookups.{shown, visible}
use Rattle.table.proofs.Walks.{shown_all}
use Rattle.block_store.specs.Gaps.{inside}

past : (i a : ℕ) (r : Bool) → a ≤ i → ((ltb 0 i && ltb i a) || r) ≡ r
past i a r le = grind (arith, nat_tests)

within : (i a : ℕ) (r : Bool) → 0 < i → i < a → ((ltb 0 i && ltb i a) || r) ≡ true
within i a r low high = grind (arith, nat_tests)

-- A block of a + b units, cut at another place than i.
two : (i a b : ℕ) (r : Bool) → 0 < a → i ≢ a → ((ltb 0 i && ltb i a) || ((ltb 0 (i - a) && ltb (i - a) b) || r)) ≡ ((ltb 0 i && ltb i (a + b)) || r)
two i a b r low ne = grind (arith, nat_tests)

module _ {C : Type 0} (K : Ghosts C) where
  pub inside_zero : (cs : List (Cell C)) → inside K 0 cs ≡ false
  inside_zero [] = refl
  inside_zero (c ∷ cs) = ap (λ m. inside K m cs) (let e : 0 - shown K c.face ≡ 0 = omega arith in e) ∙ inside_zero cs

  pub inside_past : (pre post : List (Cell C)) (n : ℕ) → inside K (visible K pre + n) (pre ++ post) ≡ inside K n post
  inside_past [] post n = ap (λ m. inside K m post) (let e : 0 + n ≡ n = omega arith in e)
  inside_past (c ∷ pre) post n =
      past (visible K (c ∷ pre) + n) (shown K c.face) _ (omega arith)
      ∙ ap (λ m. inside K m (pre ++ post)) (let e : shown K c.face + visible K pre + n - shown K c.face ≡ visible K pre + n = omega arith in e)
      ∙ inside_past pre post n

  -- After o units of a visible block.
  pub inside_at : (i o : ℕ) (f : Face C) (post : List (Cell C)) → f.removed ≡ false → K.counts f.content ≡ true → 0 < o → o ≤ K.size f.content
      → inside K o (cell i f ∷ post) ≡ ltb o (K.size f.content)
  inside_at i o f post r c low high =
      let all : shown K f ≡ K.size f.content = shown_all K f r c in
      elim (cases_lt o (K.size f.content)) [
        | inl lt ↦ within o (shown K f) _ low (omega arith) ∙ (let e : true ≡ ltb o (K.size f.content) = grind (arith, nat_tests) in e)
        | inr ge ↦ past o (shown K f) _ (omega arith) ∙ ap (λ m. inside K m post) (let e : o - shown K f ≡ 0 = omega arith in e) ∙ inside_zero post ∙ (let e : false ≡ ltb o (K.size f.content) = grind (arith, nat_tests) in e)
      ]

  pub inside_beyond : (cs : List (Cell C)) (i : ℕ) → visible K cs ≤ i → inside K i cs ≡ false
  inside_beyond [] i le = refl
  inside_beyond (c ∷ cs) i le = past i (shown K c.face) _ (omega arith) ∙ inside_beyond cs (i - shown K c.face) (omega arith)

  -- A cut at another gap leaves it where it is.
  pub inside-cut : Lawful K → (pre : List (Cell C)) (p j k : ℕ) (f : Face C) (post : List (Cell C)) (i : ℕ) → 0 < k → k < K.size f.content → i ≢ visible K pre + k
      → inside K i (pre ++ cell p (left_piece K k f) ∷ cell j (right_piece K k f) ∷ post) ≡ inside K i (pre ++ cell p f ∷ post)
  inside-cut laws (c ∷ pre) p j k f post i low high ne =
      ap (λ r. (ltb 0 i && ltb i (shown K c.face)) || r) (inside-cut laws pre p j k f post (i - shown K c.face) low high (λ e. ne_less e))
    where
      ne_less : i - shown K c.face ≡ visible K pre + k → ⊥
      ne_less e = elim (cases_lt i (shown K c.face)) [ inl lt ↦ omega arith | inr ge ↦ ne (omega arith) ]
  inside-cut laws [] p j k f post i low high ne =
      let h = laws.halves k f.content low high in
      let ls : shown K (left_piece K k f) ≡ cond f.removed 0 (cond (K.counts f.content) k 0) = rw (h.left_counts, h.front) in
      let rs : shown K (right_piece K k f) ≡ cond f.removed 0 (cond (K.counts f.content) (K.size (K.rear k f.content)) 0) = rw h.right_counts in
      let sum : k + K.size (K.rear k f.content) ≡ K.size f.content = ap (λ m. m + K.size (K.rear k f.content)) (sym h.front) ∙ h.sums in
      step f.removed (K.counts f.content) (shown K (left_piece K k f)) (shown K (right_piece K k f)) (K.size (K.rear k f.content)) (K.size f.content) ls rs sum
    where
      step : (r c : Bool) (a b m z : ℕ) → a ≡ cond r 0 (cond c k 0) → b ≡ cond r 0 (cond c m 0) → k + m ≡ z
          → ((ltb 0 i && ltb i a) || ((ltb 0 (i - a) && ltb (i - a) b) || inside K (i - a - b) post))
          ≡ ((ltb 0 i && ltb i (cond r 0 (cond c z 0))) || inside K (i - cond r 0 (cond c z 0)) post)
      step true c a b m z ea eb e =
          past i a _ (omega arith) ∙ past (i - a) b _ (omega arith)
          ∙ ap (λ n. inside K n post) (let q : i - a - b ≡ i - 0 = omega arith in q) ∙ sym (past i 0 _ (omega arith))
      step false false a b m z ea eb e =
          past i a _ (omega arith) ∙ past (i - a) b _ (omega arith)
          ∙ ap (λ n. inside K n post) (let q : i - a - b ≡ i - 0 = omega arith in q) ∙ sym (past i 0 _ (omega arith))
      step false true a b m z ea eb e =
          two i a b _ (omega arith) (λ q. ne (omega arith))
          ∙ ap (λ n. (ltb 0 i && ltb i n) || inside K (i - a - b) post) (let q : a + b ≡ z = omega arith in q)
          ∙ ap (λ n. (ltb 0 i && ltb i z) || inside K n post) (let q : i - a - b ≡ i - z = omega arith in q)

  -- Where a gap lies inside no block, it parts the cells.
  pub parted : (cs : List (Cell C)) (i : ℕ) → inside K i cs ≡ false → i ≤ visible K cs
      → (pre : List (Cell C)) × (post : List (Cell C)) × (cs ≡ pre ++ post) × (visible K pre ≡ i)
  parted [] i out le = ([], [], refl, omega arith)
  parted (c ∷ cs) i out le = step (λ out' le'. parted cs (i - shown K c.face) out' le') (cases_eq i 0) (cases_lt i (shown K c.face))
    where
      step : (inside K (i - shown K c.face) cs ≡ false → i - shown K c.face ≤ visible K cs
          → (pre : List (Cell C)) × (post : List (Cell C)) × (cs ≡ pre ++ post) × (visible K pre ≡ i - shown K c.face))
          → (i ≡ 0) ⊎ (i ≡ 0 → ⊥) → (i < shown K c.face) ⊎ (shown K c.face ≤ i)
          → (pre : List (Cell C)) × (post : List (Cell C)) × (c ∷ cs ≡ pre ++ post) × (visible K pre ≡ i)
      step rec (inl z) lt = ([], c ∷ cs, refl, sym z)
      step rec (inr ne) (inl lt) =
          absurd (true≢false (sym (within i (shown K c.face) _ (omega arith) lt) ∙ out))
      step rec (inr ne) (inr ge) =
          let r = rec (sym (past i (shown K c.face) _ (omega arith)) ∙ out) (omega arith) in
          let e : visible K r.0 ≡ i - shown K c.face = r.3 in
          (c ∷ r.0, r.1, ap (λ (xs : List (Cell C)). c ∷ xs) r.2, omega arith)
