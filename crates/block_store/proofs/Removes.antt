-- A removal, once the list is cut after its last unit and before its first.
use Rattle.std.proofs.Common.{◌≡◌, ℕ, ◌+◌, ◌<◌, ◌≤◌, Bool, true, false, cond, ◌≢◌, List, [], ◌∷◌, ◌++◌, map, length, Option, sym, refl, ap, ◌∙◌, subst, inl, inr, arith, length-append}
use lib.ListN.{length-map}
use Rattle.std.proofs.lemmas.Bool.{cases_Bool}
use Rattle.std.specs.List.{AllByRecursion}
use Rattle.content.specs.declared.content.Content.{Ghosts}
use Rattle.content.specs.Lawful.{Lawful}
use Rattle.marking.specs.Strikes.{struck_cell, Strikable, Struck}
use Rattle.table.specs.declared.block.Block.{Block}
use Rattle.table.specs.declared.gap.LeftEdge.{LeftEdge}
use Rattle.table.specs.Cells.{Face, Cell, cell, front}
use Rattle.table.specs.Cuts.{left_piece, right_piece}
use Rattle.table.specs.Gaps as table
use Rattle.table.specs.Lookups.{shown, visible}
use Rattle.table.proofs.Paths.{all_front, all_back, all_join}
use Rattle.block_store.specs.declared.gap.Gap.{Gap}
use Rattle.block_store.specs.Lists.{front_of, blocks_of, Good, Shape, Changed}
use Rattle.block_store.specs.Cuts.{one_if, CutBlock, pieces}
use Rattle.block_store.specs.Gaps.{inside, gap_needs, Gapped, left_of, GapIs, Closed, Opened}
use Rattle.block_store.specs.Removes.{Removable, RemoveDone}
use Rattle.block_store.proofs.Shapes as S
use Rattle.block_store.proofs.Gaps.{closed}
use Rattle.block_store.proofs.Insides.{inside_zero, inside_past, inside-cut, parted}

halved : (r c : Bool) (a b n m : ℕ) → a + b ≡ n → cond r 0 (cond c a 0) + (cond r 0 (cond c b 0) + m) ≡ cond r 0 (cond c n 0) + m
halved true c a b n m e = omega arith
halved false true a b n m e = omega arith
halved false false a b n m e = omega arith

module _ {C : Type 0} (K : Ghosts C) where
  pub visible-append : (xs ys : List (Cell C)) → visible K (xs ++ ys) ≡ visible K xs + visible K ys
  visible-append [] ys = omega arith
  visible-append (x ∷ xs) ys = let e : visible K (xs ++ ys) ≡ visible K xs + visible K ys = visible-append xs ys in omega arith

  -- A cut leaves the visible units as they are.
  visible-cut : Lawful K → (xs : List (Cell C)) (i j k : ℕ) (f : Face C) (ys : List (Cell C)) → 0 < k → k < K.size f.content
      → visible K (xs ++ cell i (left_piece K k f) ∷ cell j (right_piece K k f) ∷ ys) ≡ visible K (xs ++ cell i f ∷ ys)
  visible-cut laws [] i j k f ys low high =
      let h = laws.halves k f.content low high in
      rw (h.left_counts, h.right_counts) (halved f.removed (K.counts f.content) (K.size (K.fore k f.content)) (K.size (K.rear k f.content)) (K.size f.content) (visible K ys) h.sums)
  visible-cut laws (x ∷ xs) i j k f ys low high = ap (λ z. shown K x.face + z) (visible-cut laws xs i j k f ys low high)

  pub visible-pieces : Lawful K → {cs : List (Cell C)} (j : ℕ) (c : CutBlock K cs) → visible K (pieces j c) ≡ visible K cs
  visible-pieces laws {cs} j c = visible-cut laws c.pre c.place j c.offset c.face c.post c.low c.high ∙ ap (visible K) (sym c.parts)

  pub gapped_visible : Lawful K → {i j : ℕ} {cs pre post : List (Cell C)} → Gapped K i j cs pre post → visible K (pre ++ post) ≡ visible K cs
  gapped_visible laws {i} {j} {cs} g = elim (cases_Bool (inside K i cs)) [
    | inl in-it ↦ ap (visible K) (sym (g.cut in-it).1) ∙ visible-pieces laws j (g.cut in-it).0
    | inr out ↦ ap (visible K) (sym (g.whole out))
  ]

  -- Another gap lies inside a block just where it did.
  gapped_inside : Lawful K → {i j : ℕ} {cs pre post : List (Cell C)} → Gapped K i j cs pre post → (m : ℕ) → m ≢ i → inside K m (pre ++ post) ≡ inside K m cs
  gapped_inside laws {i} {j} {cs} g m ne = elim (cases_Bool (inside K i cs)) [
    | inl in-it ↦
        (let c = (g.cut in-it).0 in
        ap (inside K m) (sym (g.cut in-it).1)
        ∙ inside-cut K laws c.pre c.place j c.offset c.face c.post m c.low c.high (λ e. ne (e ∙ (g.cut in-it).2))
        ∙ ap (inside K m) (sym c.parts))
    | inr out ↦ ap (inside K m) (sym (g.whole out))
  ]

  -- And a gap that is open lies inside none.
  gapped_open : {i j : ℕ} {cs pre post : List (Cell C)} → Gapped K i j cs pre post → inside K i (pre ++ post) ≡ false
  gapped_open {i} {j} {cs} {pre} {post} g =
      ap (λ n. inside K n (pre ++ post)) (let e = g.before in let q : i ≡ visible K pre + 0 = omega arith in q) ∙ inside_past K pre post 0 ∙ inside_zero K post

  module _ (kind : Lawful K) {t : List (Block C)} {fronts : List (Option ℕ)} {used limit l i n : ℕ} (w : Removable K t fronts used limit l i n)
      {mid : List (Block C)} {last : Gap} {j : ℕ} (a : Opened K t mid fronts used l (i + n) last j) (mid-shape : Shape K w.words mid j fronts) where
    ne : i ≢ i + n
    ne e = let some = w.some in omega arith

    mid_needs : gap_needs K i (blocks_of mid fronts l) ≡ gap_needs K i (blocks_of t fronts l)
    mid_needs = ap one_if (ap (inside K i) a.changed.is ∙ gapped_inside kind a.gapped i ne)

    mid_visible : visible K (blocks_of mid fronts l) ≡ visible K (blocks_of t fronts l)
    mid_visible = ap (visible K) a.changed.is ∙ gapped_visible kind a.gapped

    pub second : {first again : Gap} → GapIs K i (blocks_of t fronts l) first → GapIs K (i + n) (blocks_of t fronts l) last → GapIs K i (blocks_of mid fronts l) again
        → used + (last.needs + first.needs) ≤ limit → length mid ≡ length t → (i ≤ visible K (blocks_of mid fronts l)) × (j + again.needs ≤ length mid)
    second f la gap room long = (
      (let e = mid_visible in let v = w.within in omega arith),
      omega (arith, f.needs, la.needs, gap.needs, mid_needs, a.records, w.fits),
    )

    module _ {both : List (Block C)} {again : Gap} {k : ℕ} (b : Opened K mid both fronts j l i again k) (shape : Shape K w.words both k fronts) where
      pub in_limit : {first : Gap} → GapIs K i (blocks_of t fronts l) first → GapIs K (i + n) (blocks_of t fronts l) last → used + (last.needs + first.needs) ≤ limit → k ≤ limit
      in_limit f la room = omega (arith, f.needs, la.needs, mid_needs, a.records, b.records)

      abbrev pub edge_gap : (left : Option ℕ) → left ≡ left_of again.place → table.Gap K both (front_of fronts l) left
      edge_gap left e = record {
        list = l;
        pre = b.pre;
        post = b.post;
        stands = shape.stands l;
        parts = b.changed.is;
        ends = b.left ∙ sym e;
        numbered = S.all_map (Good K w.words) (λ c. table.Numbered K c.face) _ (λ c good. good.numbered) (shape.good l);
      }

      parts_of : (ms : List (Cell C)) × (ys : List (Cell C)) × (b.post ≡ ms ++ ys) × (visible K ms ≡ n)
      parts_of =
          parted K b.post n
          (sym (inside_past K b.pre b.post n)
          ∙ ap (λ m. inside K m (b.pre ++ b.post)) (let e = b.gapped.before in let q : visible K b.pre + n ≡ i + n = omega arith in q)
          ∙ gapped_inside kind b.gapped (i + n) (λ e. ne (sym e)) ∙ ap (inside K (i + n)) a.changed.is ∙ gapped_open a.gapped)
          (let e : visible K (b.pre ++ b.post) ≡ visible K (blocks_of mid fronts l) = gapped_visible kind b.gapped in
          let f = mid_visible in
          let p = visible-append b.pre b.post in
          let q = b.gapped.before in
          let v = w.within in
          omega arith)

      pub ms : List (Cell C)
      ms = parts_of.0

      pub ys : List (Cell C)
      ys = parts_of.1

      post_is : b.post ≡ ms ++ ys
      unfolding ms ys
      post_is = parts_of.2

      pub ms_sum : visible K ms ≡ n
      unfolding ms
      ms_sum = parts_of.3

      pub now_parts : blocks_of both fronts l ≡ b.pre ++ (ms ++ ys)
      now_parts = b.changed.is ∙ ap (λ (xs : List (Cell C)). b.pre ++ xs) post_is

      pub hand : {e : LeftEdge} → table.LeftIs K b.pre b.post e → front (ms ++ ys) ≡ e.right
      hand le = ap front (sym post_is) ∙ sym le.right

      pub all_filled : AllByRecursion (λ c. 0 < K.size c.face.content) (blocks_of both fronts l)
      all_filled = S.all_map (Good K w.words) (λ c. 0 < K.size c.face.content) _ (λ c good. good.numbered.some) (shape.good l)

      abbrev pub strikable : (e : LeftEdge) → table.LeftIs K b.pre b.post e → Strikable K both e.right n
      strikable e le = record {
        list = l;
        start = front_of fronts l;
        pre = b.pre;
        ms = ms;
        ys = ys;
        stands = shape.stands l;
        parts = now_parts;
        at_hand = hand le;
        sum = ms_sum;
        filled = all_filled;
      }

      module _ {e : LeftEdge} (le : table.LeftIs K b.pre b.post e) {u : List (Block C)} {links : ℕ} (s : Struck K both e.right n (strikable e le) u links) where
        struck_changed : Changed both u fronts fronts l (b.pre ++ (map (struck_cell K) ms ++ ys))
        struck_changed = record {
          stands = s.stands;
          is = s.now_cells;
          others = λ m ne. s.others m (front_of fronts m) ne (shape.stands m);
          fronts_same = λ m ne. refl;
          fronts_many = refl;
        }

        pub removed : k ≤ limit → RemoveDone K t u fronts used limit l i n (record { links = links; used = k })
        removed room = record {
          upto = a.pre;
          rest = a.post;
          after_last = a.gapped;
          pre = b.pre;
          ms = ms;
          ys = ys;
          before_first =
              subst (λ z. Gapped K i z (a.pre ++ a.post) b.pre (ms ++ ys)) a.records
              (subst (λ (xs : List (Cell C)). Gapped K i j (a.pre ++ a.post) b.pre xs) post_is
              (subst (λ (xs : List (Cell C)). Gapped K i j xs b.pre b.post) a.changed.is b.gapped));
          sum = ms_sum;
          changed = S.then (S.then a.changed b.changed) struck_changed;
          links = s.links;
          records = (let x = a.records in let y = b.records in let z = mid_needs in omega arith);
          enough = room;
        }

        pub removed_shape : (m : ℕ) → Shape K m both k fronts → length u ≡ length both → Shape K m u k fronts
        removed_shape m sh long =
            let low : AllByRecursion (λ c. c.at < k) (b.pre ++ (ms ++ ys)) = subst (λ (cs : List (Cell C)). AllByRecursion (λ c. c.at < k) cs) now_parts (sh.low l) in
            let good : AllByRecursion (Good K m) (b.pre ++ (ms ++ ys)) = subst (λ (cs : List (Cell C)). AllByRecursion (Good K m) cs) now_parts (sh.good l) in
            let room = sh.room in
            S.shape_changed struck_changed K m k k sh w.known (omega arith) (omega arith)
            (among (λ c. c.at < k) low (λ c lt. lt))
            (among (Good K m) good (λ c gd. record { numbered = record { some = gd.numbered.some; ids = gd.numbered.ids }; fits = gd.fits }))
            (ap (λ z. z + k) (length-append b.pre (map (struck_cell K) ms ++ ys) ∙ ap (λ z. length b.pre + z) (length-append (map (struck_cell K) ms) ys ∙ ap (λ z. z + length ys) (length-map ms (struck_cell K)) ∙ sym (length-append ms ys))
            ∙ sym (length-append b.pre (ms ++ ys)) ∙ ap length (sym now_parts)))
          where
            each : (P : Cell C → Type 0) (xs : List (Cell C)) → AllByRecursion P xs → ((c : Cell C) → P c → P (struck_cell K c)) → AllByRecursion P (map (struck_cell K) xs)
            each P [] h f = tt
            each P (x ∷ xs) h f = (f x h.0, each P xs h.1 f)

            among : (P : Cell C → Type 0) → AllByRecursion P (b.pre ++ (ms ++ ys)) → ((c : Cell C) → P c → P (struck_cell K c)) → AllByRecursion P (b.pre ++ (map (struck_cell K) ms ++ ys))
            among P h f =
                all_join P b.pre _ (all_front P b.pre (ms ++ ys) h)
                (all_join P (map (struck_cell K) ms) ys (each P ms (all_front P ms ys (all_back P b.pre (ms ++ ys) h)) f) (all_back P ms ys (all_back P b.pre (ms ++ ys) h)))

  -- Both gaps are opened, the later one first.
  pub record Two {t : List (Block C)} {fronts : List (Option ℕ)} {used limit l i n : ℕ} (w : Removable K t fronts used limit l i n) (last again : Gap) (mid both : List (Block C)) (j k : ℕ) : Type 0 where
    pub after_last : Opened K t mid fronts used l (i + n) last j
    pub mid_shape : Shape K w.words mid j fronts
    pub before_first : Opened K mid both fronts j l i again k
    pub shape : Shape K w.words both k fronts
    pub keeps : (m : ℕ) → Shape K m t used fronts → Shape K m both k fronts
    pub fits : k ≤ limit

  module _ (kind : Lawful K) {t : List (Block C)} {fronts : List (Option ℕ)} {used limit l i n : ℕ} (w : Removable K t fronts used limit l i n) {first last again : Gap} {mid : List (Block C)} {j : ℕ} where
    pub second_closed : GapIs K i (blocks_of t fronts l) first → GapIs K (i + n) (blocks_of t fronts l) last → GapIs K i (blocks_of mid fronts l) again
        → used + (last.needs + first.needs) ≤ limit → length mid ≡ length t
        → ((x : Closed K t used last) → Opened K t mid x.fronts used x.list x.index last j)
        → ((x : Closed K t used last) (m : ℕ) → Shape K m t used x.fronts → Shape K m mid j x.fronts)
        → Closed K mid j again
    second_closed f la gap room long opened-1 shape-1 =
        let x : Closed K t used last = closed w.shape w.known la w.within (omega (arith, room, w.fits)) in
        let mid_shape : Shape K w.words mid j fronts = shape-1 x w.words w.shape in
        let more = second kind w (opened-1 x) mid_shape f la gap room long in
        closed mid_shape w.known gap more.0 more.1

    pub two : {both : List (Block C)} {k : ℕ} → GapIs K i (blocks_of t fronts l) first → GapIs K (i + n) (blocks_of t fronts l) last → GapIs K i (blocks_of mid fronts l) again
        → used + (last.needs + first.needs) ≤ limit → length mid ≡ length t
        → ((x : Closed K t used last) → Opened K t mid x.fronts used x.list x.index last j)
        → ((x : Closed K t used last) (m : ℕ) → Shape K m t used x.fronts → Shape K m mid j x.fronts)
        → ((x : Closed K mid j again) → Opened K mid both x.fronts j x.list x.index again k)
        → ((x : Closed K mid j again) (m : ℕ) → Shape K m mid j x.fronts → Shape K m both k x.fronts)
        → Two w last again mid both j k
    two {both} {k} f la gap room long opened-1 shape-1 opened-2 shape-2 =
        let x : Closed K t used last = closed w.shape w.known la w.within (omega (arith, room, w.fits)) in
        let a : Opened K t mid fronts used l (i + n) last j = opened-1 x in
        let mid_shape : Shape K w.words mid j fronts = shape-1 x w.words w.shape in
        let more = second kind w a mid_shape f la gap room long in
        let y : Closed K mid j again = closed mid_shape w.known gap more.0 more.1 in
        let b : Opened K mid both fronts j l i again k = opened-2 y in
        let shape : Shape K w.words both k fronts = shape-2 y w.words mid_shape in
        record {
          after_last = a;
          mid_shape = mid_shape;
          before_first = b;
          shape = shape;
          keeps = λ m s. shape-2 y m (shape-1 x m s);
          fits = in_limit kind w a mid_shape b shape f la room;
        }
