-- A gap that is found and opened.
use Rattle.std.proofs.Common.{◌≡◌, ℕ, ◌+◌, ◌<◌, ◌≤◌, true, false, ltb, ◌≢◌, List, [], ◌∷◌, ◌++◌, length, get_or, Some, None, Option, sym, refl, ap, ◌∙◌, subst, inl, inr, append_assoc, arith}
use Rattle.std.proofs.lemmas.Bool.{cases_Bool, true≢false}
use Rattle.std.proofs.lemmas.Bool.Decides.{nat_tests}
use Rattle.std.specs.List.{AllByRecursion}
use Rattle.content.specs.declared.content.Content.{Ghosts}
use Rattle.content.specs.Lawful.{Lawful}
use Rattle.table.specs.declared.block.Block.{Block}
use Rattle.table.specs.declared.lookup.Place.{Place}
use Rattle.table.specs.declared.lookup.Place.TheVariants.{Front, After, Past}
use Rattle.table.specs.Cells.{Face, Cell, cell, block, face_of, front, last, Holds, Path, cells, Stands}
use Rattle.table.specs.Cuts.{left_piece, right_piece, Cuttable, Cut}
use Rattle.table.specs.Lookups.{shown, visible, SoughtAt, Sought}
use Rattle.table.proofs.Paths.{last-append, seg_back, holds_unique}
use Rattle.table.proofs.Walks.{visible_more, shown_all}
use Rattle.block_store.specs.declared.gap.Gap.{Gap}
use Rattle.block_store.specs.Lists.{blocks_of, Good, Shape, Changed}
use Rattle.block_store.specs.Cuts.{one_if, CutBlock}
use Rattle.block_store.specs.Gaps.{inside, gap_needs, EndsShown, Gapped, left_of, GapIs, Openable, Closed, Opened}
use Rattle.block_store.proofs.Shapes as S
use Rattle.block_store.proofs.Insides.{inside_zero, inside_past, inside_at, inside_beyond}

module _ {C : Type 0} where
  -- The block in the record of one of the cells of a list that stands.
  module _ {t : List (Block C)} {l : ℕ} {start : Option ℕ} (stands : Stands t l start) (pre : List (Cell C)) (i : ℕ) (f : Face C) (post : List (Cell C)) (parts : cells t start ≡ pre ++ cell i f ∷ post) where
    holds_cell : Holds t i (block l (last None pre) (front post) f)
    holds_cell = (seg_back t l None pre (cell i f ∷ post) None (subst (λ (cs : List (Cell C)). Path t l None cs) parts stands.path)).0

    pub cell-within : i < length t
    cell-within = holds_cell.within

    pub cell-block : (b : Block C) → b ≡ get_or t i b → b ≡ block l (last None pre) (front post) f
    cell-block b e = holds_unique t i b _ (record { within = cell-within; is = e }) holds_cell

    pub cell_content : (b : Block C) → b ≡ get_or t i b → b.content ≡ f.content
    cell_content b e = ap (λ (y : Block C). y.content) (cell-block b e)

    pub cell-face : (b : Block C) → b ≡ get_or t i b → face_of (get_or t i b) ≡ f
    cell-face b e = ap face_of (holds_unique t i (get_or t i b) _ (record { within = cell-within; is = ap (get_or t i) e }) holds_cell)

  pub ends-shown : (K : Ghosts C) (xs : List (Cell C)) (c : Cell C) → c.face.removed ≡ false → K.counts c.face.content ≡ true → EndsShown K (xs ++ c ∷ [])
  ends-shown K [] c r n = (r, n)
  ends-shown K (x ∷ []) c r n = (r, n)
  ends-shown K (x ∷ y ∷ xs) c r n = ends-shown K (y ∷ xs) c r n

  module _ (K : Ghosts C) (i : ℕ) (cs : List (Cell C)) where
    -- How many new blocks a place takes.
    pub needs_after : (p o : ℕ) (q : SoughtAt K i cs p o) → inside K i cs ≡ ltb o (K.size q.face.content)
    needs_after p o q =
        subst (λ (xs : List (Cell C)). inside K i xs ≡ ltb o (K.size q.face.content)) (sym q.parts)
        (ap (λ n. inside K n (q.pre ++ cell p q.face ∷ q.post)) (sym q.sum)
        ∙ inside_past K q.pre (cell p q.face ∷ q.post) o
        ∙ inside_at K p o q.face q.post q.stays q.counted q.some q.inside)

    pub gap-front : (g : Gap) → g.place ≡ Front → g.needs ≡ 0 → Sought K i cs Front → GapIs K i cs g
    gap-front g e z q = record {
      sought = subst (λ p. Sought K i cs p) (sym e) q;
      needs = z ∙ sym (ap (λ n. gap_needs K n cs) q ∙ ap one_if (inside_zero K cs));
    }

    pub gap_past : (g : Gap) → g.place ≡ Past → g.needs ≡ 0 → Sought K i cs Past → GapIs K i cs g
    gap_past g e z q = record {
      sought = subst (λ p. Sought K i cs p) (sym e) q;
      needs = z ∙ sym (ap one_if (inside_beyond K cs i (omega arith)));
    }

    -- A place that is none after a block.
    pub gap_rest : (g : Gap) → ((p o : ℕ) → g.place ≡ After p o → ⊥) → g.needs ≡ 0 → Sought K i cs g.place → GapIs K i cs g
    gap_rest g other z q = step g.place refl q
      where
        step : (p : Place) → g.place ≡ p → Sought K i cs p → GapIs K i cs g
        step Front e s = gap-front g e z s
        step (After p o) e s = absurd (other p o e)
        step Past e s = gap_past g e z s

    pub gap_after : (g : Gap) (p o : ℕ) → g.place ≡ After p o → (q : SoughtAt K i cs p o) → g.needs ≡ one_if (ltb o (K.size q.face.content)) → GapIs K i cs g
    gap_after g p o e q n = record {
      sought = subst (λ r. Sought K i cs r) (sym e) q;
      needs = n ∙ ap one_if (sym (needs_after p o q));
    }

  abbrev pub closed : {K : Ghosts C} {t : List (Block C)} {fronts : List (Option ℕ)} {words used l i : ℕ} {g : Gap} → Shape K words t used fronts → l < length fronts
      → GapIs K i (blocks_of t fronts l) g → i ≤ visible K (blocks_of t fronts l) → used + g.needs ≤ length t → Closed K t used g
  closed {fronts = fronts} {words = words} {l = l} {i = i} shape known gap within room = record {
    fronts = fronts;
    list = l;
    index = i;
    openable = record { words = words; shape = shape; known = known; gap = gap; within = within; room = room };
  }

  -- The blocks on both sides of an open gap are good.
  pub gapped_good : {K : Ghosts C} {i j : ℕ} {cs pre post : List (Cell C)} (n : ℕ) → Lawful K → Gapped K i j cs pre post → AllByRecursion (Good K n) cs → AllByRecursion (Good K n) (pre ++ post)
  gapped_good {K} {i} {j} {cs} n laws g good = elim (cases_Bool (inside K i cs)) [
    | inl in-it ↦ subst (λ (xs : List (Cell C)). AllByRecursion (Good K n) xs) (g.cut in-it).1 (S.pieces_good n j laws (g.cut in-it).0 good)
    | inr out ↦ subst (λ (xs : List (Cell C)). AllByRecursion (Good K n) xs) (g.whole out) good
  ]

  module _ {K : Ghosts C} {t : List (Block C)} {fronts : List (Option ℕ)} {used l i : ℕ} {g : Gap} (w : Openable K t fronts used l i g) where
    cs : List (Cell C)
    cs = blocks_of t fronts l

    pub here : (p o : ℕ) → g.place ≡ After p o → SoughtAt K i (blocks_of t fronts l) p o
    here p o e = subst (λ r. Sought K i (blocks_of t fronts l) r) e w.gap.sought

    needs_is : (p o : ℕ) (e : g.place ≡ After p o) → g.needs ≡ one_if (ltb o (K.size (here p o e).face.content))
    needs_is p o e = w.gap.needs ∙ ap one_if (needs_after K i (blocks_of t fronts l) p o (here p o e))

    last_is : (xs : List (Cell C)) (p : ℕ) (f : Face C) → last None (xs ++ cell p f ∷ []) ≡ Some p
    last_is xs p f = last-append None xs (cell p f ∷ [])

    -- At an edge of a block nothing is cut.
    pub opened_edge : (p o : ℕ) → g.place ≡ After p o → g.needs ≡ 0 → Opened K t t fronts used l i g used
    opened_edge p o e z =
        let q = here p o e in
        let some : 0 < o = q.some in
        let le : o ≤ K.size q.face.content = q.inside in
        let n : g.needs ≡ one_if (ltb o (K.size q.face.content)) = needs_is p o e in
        let all : o ≡ K.size q.face.content = grind (arith, nat_tests) in
        let split : blocks_of t fronts l ≡ (q.pre ++ cell p q.face ∷ []) ++ q.post = q.parts ∙ sym (append_assoc q.pre (cell p q.face ∷ []) q.post) in
        let out : inside K i (blocks_of t fronts l) ≡ false = needs_after K i (blocks_of t fronts l) p o q ∙ (let f : ltb o (K.size q.face.content) ≡ false = grind (arith, nat_tests) in f) in
        record {
          pre = q.pre ++ cell p q.face ∷ [];
          post = q.post;
          gapped = record {
            whole = λ _. split;
            cut = λ in-it. absurd (true≢false (sym in-it ∙ out));
            before =
                (let a : visible K (q.pre ++ cell p q.face ∷ []) ≡ visible K q.pre + shown K q.face = visible_more K q.pre p q.face in
                let b : shown K q.face ≡ K.size q.face.content = shown_all K q.face q.stays q.counted in
                let d = q.sum in
                omega arith);
            ends = ends-shown K q.pre (cell p q.face) q.stays q.counted;
          };
          changed = S.same K w.words used t fronts l _ w.shape split;
          left = last_is q.pre p q.face ∙ sym (ap left_of e);
          records = (let y : one_if (inside K i (blocks_of t fronts l)) ≡ 0 = ap one_if out in omega arith);
        }

    -- At the front nothing is cut either.
    pub opened-front : g.place ≡ Front → Opened K t t fronts used l i g used
    opened-front e =
        let z : i ≡ 0 = subst (λ r. Sought K i (blocks_of t fronts l) r) e w.gap.sought in
        let out : inside K i (blocks_of t fronts l) ≡ false = ap (λ n. inside K n (blocks_of t fronts l)) z ∙ inside_zero K (blocks_of t fronts l) in
        record {
          pre = [];
          post = blocks_of t fronts l;
          gapped = record {
            whole = λ _. refl;
            cut = λ in-it. absurd (true≢false (sym in-it ∙ out));
            before = sym z;
            ends = tt;
          };
          changed = S.same K w.words used t fronts l _ w.shape refl;
          left = sym (ap left_of e);
          records = (let y : one_if (inside K i (blocks_of t fronts l)) ≡ 0 = ap one_if out in omega arith);
        }

    pub opened_rest : ((p o : ℕ) → g.place ≡ After p o → ⊥) → Opened K t t fronts used l i g used
    opened_rest other = step g.place refl
      where
        step : (r : Place) → g.place ≡ r → Opened K t t fronts used l i g used
        step Front e = opened-front e
        step (After p o) e = absurd (other p o e)
        step Past e =
            let lt : visible K (blocks_of t fronts l) < i = subst (λ r. Sought K i (blocks_of t fronts l) r) e w.gap.sought in
            let le : i ≤ visible K (blocks_of t fronts l) = w.within in
            absurd (omega arith)

    -- Inside a block.
    module _ (p o : ℕ) (e : g.place ≡ After p o) (some : g.needs ≢ 0) where
      pub high : o < K.size (here p o e).face.content
      high = let n : g.needs ≡ one_if (ltb o (K.size (here p o e).face.content)) = needs_is p o e in grind (arith, nat_tests)

      one : g.needs ≡ 1
      one = let n : g.needs ≡ one_if (ltb o (K.size (here p o e).face.content)) = needs_is p o e in let h = high in grind (arith, nat_tests)

      abbrev the_cut : CutBlock K (blocks_of t fronts l)
      the_cut = record { pre = (here p o e).pre; place = p; face = (here p o e).face; post = (here p o e).post; offset = o; parts = (here p o e).parts; low = (here p o e).some; high = high }

      pub room_one : used < length t
      room_one = let r = w.room in let n : g.needs ≡ 1 = one in omega arith

      abbrev pub ready : Cuttable K t p o used
      ready = S.cuttable w.shape l the_cut room_one

      pub opened_inside : Lawful K → (u : List (Block C)) → Cut K t p o used ready u → Opened K t u fronts used l i g (used + 1)
      opened_inside laws u c =
          let q = here p o e in
          let h = laws.halves o q.face.content q.some high in
          let L : Face C = left_piece K o q.face in
          let in-it : inside K i (blocks_of t fronts l) ≡ true = needs_after K i (blocks_of t fronts l) p o q ∙ (let h = high in let f : ltb o (K.size q.face.content) ≡ true = grind (arith, nat_tests) in f) in
          record {
            pre = q.pre ++ cell p (left_piece K o q.face) ∷ [];
            post = cell used (right_piece K o q.face) ∷ q.post;
            gapped = record {
              whole = λ out. absurd (true≢false (sym in-it ∙ out));
              cut = λ _. (the_cut, sym (append_assoc q.pre (cell p (left_piece K o q.face) ∷ []) (cell used (right_piece K o q.face) ∷ q.post)), q.sum);
              before =
                  (let a : visible K (q.pre ++ cell p (left_piece K o q.face) ∷ []) ≡ visible K q.pre + shown K (left_piece K o q.face) = visible_more K q.pre p (left_piece K o q.face) in
                  let b : shown K (left_piece K o q.face) ≡ K.size (K.fore o q.face.content) = shown_all K (left_piece K o q.face) q.stays (h.left_counts ∙ q.counted) in
                  let z = h.front in
                  let d = q.sum in
                  omega arith);
              ends = ends-shown K q.pre (cell p (left_piece K o q.face)) q.stays (h.left_counts ∙ q.counted);
            };
            changed = subst (λ (xs : List (Cell C)). Changed t u fronts fronts l xs) (sym (append_assoc q.pre (cell p (left_piece K o q.face) ∷ []) (cell used (right_piece K o q.face) ∷ q.post))) (S.cut_changed w.shape l the_cut room_one c);
            left = last_is q.pre p (left_piece K o q.face) ∙ sym (ap left_of e);
            records = (let y : one_if (inside K i (blocks_of t fronts l)) ≡ 1 = ap one_if in-it in omega arith);
          }

      pub opened_shape : Lawful K → (u : List (Block C)) → Cut K t p o used ready u → length u ≡ length t → (n : ℕ) → Shape K n t used fronts → Shape K n u (used + 1) fronts
      opened_shape laws u c long n s = S.cut_shape s l the_cut laws w.known room_one long (S.cut_changed w.shape l the_cut room_one c)
