-- The shape of the lists after one of them has changed.
use Rattle.std.proofs.Common.{◌≡◌, ℕ, zero, suc, ◌+◌, ◌<◌, ◌≤◌, ◌≢◌, ◌⊎◌, List, [], ◌∷◌, ◌++◌, length, None, Option, sym, refl, ap, ◌∙◌, subst, inl, inr, arith, length-append}
use Rattle.std.proofs.lemmas.Bool.{cases_eq}
use Rattle.std.specs.List.{AllByRecursion}
use Rattle.content.specs.declared.content.Content.{Ghosts}
use Rattle.content.specs.Lawful.{Lawful}
use Rattle.table.specs.declared.block.Block.{Block}
use Rattle.table.specs.Cells.{Cell, cell, Apart, cells, Stands}
use Rattle.table.specs.Cuts.{left_piece, right_piece, Cuttable, Cut}
use Rattle.table.proofs.Paths.{all_front, all_back, all_join}
use Rattle.table.proofs.Computed.{cells_of}
use Rattle.block_store.specs.Lists.{front_of, blocks_of, Good, total, Shape, Changed}
use Rattle.block_store.specs.Cuts.{CutBlock, pieces}

total_same : (f g : ℕ → ℕ) (n : ℕ) → ((m : ℕ) → m < n → g m ≡ f m) → total g n ≡ total f n
total_same f g zero e = refl
total_same f g (suc n) e =
    let a : g n ≡ f n = e n (omega arith) in
    let b : total g n ≡ total f n = total_same f g n (λ m lt. e m (omega arith)) in
    omega arith

-- One of the summands has changed.
total_changed : (f g : ℕ → ℕ) (n l x y : ℕ) → l < n → g l + x ≡ f l + y → ((m : ℕ) → l ≢ m → g m ≡ f m) → total g n + x ≡ total f n + y
total_changed f g zero l x y lt e o = absurd (omega arith)
total_changed f g (suc n) l x y lt e o = step (λ lt'. total_changed f g n l x y lt' e o) (cases_eq l n)
  where
    step : (l < n → total g n + x ≡ total f n + y) → (l ≡ n) ⊎ (l ≡ n → ⊥) → total g (suc n) + x ≡ total f (suc n) + y
    step rec (inl same) =
        let b : total g n ≡ total f n = total_same f g n (λ m lt'. o m (λ q. omega arith)) in
        let a : g n + x ≡ f n + y = subst (λ z. g z + x ≡ f z + y) same e in
        omega arith
    step rec (inr ne) =
        let b : total g n + x ≡ total f n + y = rec (omega arith) in
        let a : g n ≡ f n = o n ne in
        omega arith

pub all_at : {X : Type 0} (P : X → Type 0) (xs : List X) (x : X) (ys : List X) → AllByRecursion P (xs ++ x ∷ ys) → P x
all_at P xs x ys a = (all_back P xs (x ∷ ys) a).0

-- What holds of each, where one more stands among them.
pub all_put : {X : Type 0} (P : X → Type 0) (xs : List X) (x : X) (ys : List X) → AllByRecursion P (xs ++ ys) → P x → AllByRecursion P (xs ++ x ∷ ys)
all_put P xs x ys a px = all_join P xs (x ∷ ys) (all_front P xs ys a) (px, all_back P xs ys a)

pub all_map : {X : Type 0} (P Q : X → Type 0) (xs : List X) → ((x : X) → P x → Q x) → AllByRecursion P xs → AllByRecursion Q xs
all_map P Q [] f a = tt
all_map P Q (x ∷ xs) f a = (f x a.0, all_map P Q xs f a.1)

module _ {C : Type 0} where
  -- A list that begins nowhere has no blocks.
  pub no_cells : (t : List (Block C)) → cells t None ≡ []
  no_cells t = cells_of t 0 None None [] tt refl

  -- A list whose blocks lie below a record does not have that record.
  pub low_apart : (n : ℕ) (cs : List (Cell C)) → AllByRecursion (λ c. c.at < n) cs → Apart n cs
  low_apart n [] a = tt
  low_apart n (c ∷ cs) a = ((λ e. let lt : c.at < n = a.0 in omega arith), low_apart n cs a.1)

  pub lower : (m n : ℕ) (cs : List (Cell C)) → m ≤ n → AllByRecursion (λ c. c.at < m) cs → AllByRecursion (λ c. c.at < n) cs
  lower m n cs le a = all_map (λ c. c.at < m) (λ c. c.at < n) cs (λ c lt. omega arith) a

  -- Nothing has changed.
  pub same : (K : Ghosts C) (n used : ℕ) (t : List (Block C)) (fronts : List (Option ℕ)) (l : ℕ) (cs : List (Cell C)) → Shape K n t used fronts → blocks_of t fronts l ≡ cs → Changed t t fronts fronts l cs
  same K n used t fronts l cs s e = record { stands = s.stands l; is = e; others = λ m ne. record { stands = s.stands m; same = refl }; fronts_same = λ m ne. refl; fronts_many = refl }

  module _ {t u : List (Block C)} {fronts now-fronts : List (Option ℕ)} {l : ℕ} {cs : List (Cell C)} (w : Changed t u fronts now-fronts l cs) where
    pub other_blocks : (m : ℕ) → l ≢ m → blocks_of u now-fronts m ≡ blocks_of t fronts m
    other_blocks m ne = ap (cells u) (w.fronts_same m ne) ∙ (w.others m ne).same

    -- Each list is a list that was, or the changed one.
    each : (P : ℕ → List (Cell C) → Type 0) → P l cs → ((m : ℕ) → P m (blocks_of t fronts m)) → (m : ℕ) → P m (blocks_of u now-fronts m)
    each P here other m = step (cases_eq l m)
      where
        step : (l ≡ m) ⊎ (l ≡ m → ⊥) → P m (blocks_of u now-fronts m)
        step (inl e) = subst (λ z. P z (blocks_of u now-fronts z)) e (subst (λ (ds : List (Cell C)). P l ds) (sym w.is) here)
        step (inr ne) = subst (λ (ds : List (Cell C)). P m ds) (sym (other_blocks m ne)) (other m)

    each_stands : (m : ℕ) → Stands u m (front_of now-fronts m)
    each_stands m = step (cases_eq l m)
      where
        step : (l ≡ m) ⊎ (l ≡ m → ⊥) → Stands u m (front_of now-fronts m)
        step (inl e) = subst (λ z. Stands u z (front_of now-fronts z)) e w.stands
        step (inr ne) = subst (λ o. Stands u m o) (sym (w.fronts_same m ne)) (w.others m ne).stands

    pub shape_changed : (K : Ghosts C) (n used now-used : ℕ) → Shape K n t used fronts → l < length fronts → used ≤ now-used → now-used ≤ length u
        → AllByRecursion (λ c. c.at < now-used) cs → AllByRecursion (Good K n) cs → length cs + used ≡ length (blocks_of t fronts l) + now-used → Shape K n u now-used now-fronts
    shape_changed K n used now-used s known more room low good long = record {
      stands = each_stands;
      low = each (λ m ds. AllByRecursion (λ c. c.at < now-used) ds) low (λ m. lower used now-used (blocks_of t fronts m) more (s.low m));
      good = each (λ m ds. AllByRecursion (Good K n) ds) good s.good;
      room = room;
      count =
          (let e : total (λ m. length (blocks_of u now-fronts m)) (length fronts) + used ≡ total (λ m. length (blocks_of t fronts m)) (length fronts) + now-used =
          total_changed (λ m. length (blocks_of t fronts m)) (λ m. length (blocks_of u now-fronts m)) (length fronts) l used now-used known (ap (λ (ds : List (Cell C)). length ds + used) w.is ∙ long) (λ m ne. ap length (other_blocks m ne)) in
          let c = s.count in
          let f : total (λ m. length (blocks_of u now-fronts m)) (length now-fronts) ≡ total (λ m. length (blocks_of u now-fronts m)) (length fronts) = ap (total (λ m. length (blocks_of u now-fronts m))) w.fronts_many in
          omega arith);
    }

    -- Two changes of one list, one after the other.
    pub then : {v : List (Block C)} {last-fronts : List (Option ℕ)} {ds : List (Cell C)} → Changed u v now-fronts last-fronts l ds → Changed t v fronts last-fronts l ds
    then {v} {last-fronts} {ds} x = record {
      stands = x.stands;
      is = x.is;
      others = λ m ne. record {
        stands = subst (λ o. Stands v m o) (w.fronts_same m ne) (x.others m ne).stands;
        same = ap (cells v) (sym (w.fronts_same m ne)) ∙ (x.others m ne).same ∙ ap (cells u) (w.fronts_same m ne) ∙ (w.others m ne).same;
      };
      fronts_same = λ m ne. x.fronts_same m ne ∙ w.fronts_same m ne;
      fronts_many = x.fronts_many ∙ w.fronts_many;
    }

  -- Both pieces of a good block are good.
  pub pieces_good : {K : Ghosts C} {cs : List (Cell C)} (n j : ℕ) → Lawful K → (c : CutBlock K cs) → AllByRecursion (Good K n) cs → AllByRecursion (Good K n) (pieces j c)
  pieces_good {K} {cs} n j laws c good =
      let was : AllByRecursion (Good K n) (c.pre ++ cell c.place c.face ∷ c.post) = subst (λ (ds : List (Cell C)). AllByRecursion (Good K n) ds) c.parts good in
      let g : Good K n (cell c.place c.face) = all_at (Good K n) c.pre (cell c.place c.face) c.post was in
      let h = laws.halves c.offset c.face.content c.low c.high in
      let ids = g.numbered.ids in
      let fits = g.fits in
      let a = h.front in
      let b = h.sums in
      let la = h.left_reach in
      let lb = h.right_reach in
      let lo = c.low in
      let hi = c.high in
      all_join (Good K n) c.pre _ (all_front (Good K n) c.pre _ was) (
        record { numbered = record { some = omega arith; ids = omega arith }; fits = omega arith },
        (record { numbered = record { some = omega arith; ids = omega arith }; fits = omega arith }, (all_back (Good K n) c.pre _ was).1),
      )

  module _ {K : Ghosts C} {n used : ℕ} {t : List (Block C)} {fronts : List (Option ℕ)} (s : Shape K n t used fronts) where
    pub free : (l : ℕ) → Apart used (blocks_of t fronts l)
    free l = low_apart used (blocks_of t fronts l) (s.low l)

    module _ (l : ℕ) (c : CutBlock K (blocks_of t fronts l)) where
      pub cut_good : Good K n (cell c.place c.face)
      cut_good = all_at (Good K n) c.pre (cell c.place c.face) c.post (subst (λ (cs : List (Cell C)). AllByRecursion (Good K n) cs) c.parts (s.good l))

      abbrev pub cuttable : used < length t → Cuttable K t c.place c.offset used
      cuttable room = record {
        list = l;
        start = front_of fronts l;
        pre = c.pre;
        face = c.face;
        post = c.post;
        stands = s.stands l;
        parts = c.parts;
        room = room;
        free = free l;
        some_left = c.low;
        some_right = c.high;
        ids = cut_good.numbered.ids;
      }

      pub cut_changed : (room : used < length t) {u : List (Block C)} → Cut K t c.place c.offset used (cuttable room) u → Changed t u fronts fronts l (pieces used c)
      cut_changed room w = record {
        stands = w.stands;
        is = w.now_cells;
        others = λ m ne. w.others m (front_of fronts m) ne (s.stands m) (free m);
        fronts_same = λ m ne. refl;
        fronts_many = refl;
      }

      pub cut_shape : Lawful K → l < length fronts → used < length t → {u : List (Block C)} → length u ≡ length t → Changed t u fronts fronts l (pieces used c) → Shape K n u (used + 1) fronts
      cut_shape laws known room long w =
          let was-low : AllByRecursion (λ d. d.at < used) (c.pre ++ cell c.place c.face ∷ c.post) = subst (λ (cs : List (Cell C)). AllByRecursion (λ d. d.at < used) cs) c.parts (s.low l) in
          shape_changed w K n used (used + 1) s known (omega arith) (omega arith)
          (all_join (λ d. d.at < used + 1) c.pre _ (lower used (used + 1) c.pre (omega arith) (all_front (λ d. d.at < used) c.pre _ was-low)) (
            let lt : c.place < used = all_at (λ d. d.at < used) c.pre (cell c.place c.face) c.post was-low in omega arith,
            (omega arith, lower used (used + 1) c.post (omega arith) (all_back (λ d. d.at < used) c.pre _ was-low).1),
          ))
          (pieces_good n used laws c (s.good l))
          (let e : length (blocks_of t fronts l) ≡ length (c.pre ++ cell c.place c.face ∷ c.post) = ap length c.parts in
          omega (arith, simp length-append at e, length-append c.pre (cell c.place (left_piece K c.offset c.face) ∷ cell used (right_piece K c.offset c.face) ∷ c.post)))
