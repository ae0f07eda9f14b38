-- A new block, put into a gap that is open.
use Rattle.std.proofs.Common.{◌≡◌, ℕ, ◌+◌, ◌-◌, ◌<◌, ◌≤◌, false, ◌&&◌, ◌||◌, List, ◌∷◌, ◌++◌, length, set, None, Option, sym, refl, ap, ◌∙◌, subst, ap₂, arith, length-append, length-set}
use Rattle.std.proofs.lemmas.List.{get_or-set_same, get_or-set_other}
use Rattle.std.specs.Option.{option_map}
use Rattle.std.specs.List.{AllByRecursion}
use Rattle.content.specs.declared.content.Content.{Ghosts}
use Rattle.source.specs.declared.id.Id.{Id}
use Rattle.law.specs.Faces.{bit}
use Rattle.law.specs.Joins.{starts_here, ends_here}
use Rattle.registry.specs.declared.links.Links.{Links}
use Rattle.registry.specs.Links.{plain_id, link_in}
use Rattle.table.specs.declared.block.Block.{Block}
use Rattle.table.specs.declared.gap.LeftEdge.{LeftEdge}
use Rattle.table.specs.declared.gap.RightEdge.{RightEdge}
use Rattle.table.specs.Cells.{Cell, cell, front, last, Path, cells, Stands}
use Rattle.table.specs.Gaps.{Numbered, Gap, LeftIs, RightIs}
use Rattle.table.specs.Puts.{Within, Spliceable, Put}
use Rattle.table.proofs.Paths.{seg_back, front-within}
use Rattle.table.proofs.Computed.{cells_of}
use Rattle.table.proofs.Afters.{within_all}
use Rattle.block_store.specs.declared.gap.Gap as found
use Rattle.block_store.specs.Lists.{front_of, blocks_of, Good, Shape, Changed}
use Rattle.block_store.specs.Gaps.{left_of, GapIs, Closed, Opened}
use Rattle.block_store.specs.Inserts.{new_face, Joins, Puttable, NewBlock, Insertable, InsertDone}
use Rattle.block_store.proofs.Shapes as S
use Rattle.block_store.proofs.Gaps.{closed}

module _ {C : Type 0} where
  module _ {K : Ghosts C} {t : List (Block C)} {l : ℕ} {start left : Option ℕ} {j : ℕ} (w : Puttable K t l start left j) where
    abbrev pub gap_of : Gap K t start left
    gap_of = record { list = l; pre = w.pre; post = w.post; stands = w.stands; parts = w.parts; ends = w.ends; numbered = w.numbered }

    abbrev pub splice_of : Spliceable t l start left j
    splice_of = record { pre = w.pre; post = w.post; stands = w.stands; parts = w.parts; ends = w.ends; room = w.room; free = w.free }

    post_path : Path t l (last None w.pre) w.post
    post_path = seg_back t l None w.pre w.post None (subst (λ (cs : List (Cell C)). Path t l None cs) w.parts w.stands.path)

    pub right_within : (right : Option ℕ) → right ≡ front w.post → Within t right
    right_within right e = within_all t t right refl (λ m q. front-within t l (last None w.pre) w.post m post_path (sym e ∙ q))

    pub right_cells : (right : Option ℕ) → right ≡ front w.post → cells t right ≡ w.post
    right_cells right e = cells_of t l (last None w.pre) right w.post post_path (sym e)

    module _ (links : Links) (id : Id) (x : C) (r : ℕ) {a : LeftEdge} {b : RightEdge} (la : LeftIs K w.pre w.post a) (rb : RightIs w.post b)
        (joined : (n : ℕ) → bit n r ≡ ((bit n a.links || starts_here (link_in links n) l (option_map plain_id a.last)) && (bit n b.links || ends_here (link_in links n) l (option_map plain_id b.first)))) where
      joins : Joins K links l w.pre w.post r
      joins n =
          joined n
          ∙ ap₂ ◌&&◌ (ap₂ (λ s o. bit n s || starts_here (link_in links n) l (option_map plain_id o)) la.set la.id)
          (ap₂ (λ s o. bit n s || ends_here (link_in links n) l (option_map plain_id o)) rb.set rb.id)

      pub new_block : {u : List (Block C)} {begin : Option ℕ} → Put t l start left j (record { id = id; origin = a.last; right_origin = b.first; removed = false; links = r; content = x }) splice_of u begin
          → NewBlock K links t u l begin j id x w.pre w.post r
      new_block {u} {begin} p = record {
        joins = joins;
        stands = p.stands;
        now_cells = p.now_cells ∙ ap₂ (λ (o q : Option Id). w.pre ++ cell j (record { id = id; origin = o; right_origin = q; removed = false; links = r; content = x }) ∷ w.post) la.id rb.id;
        others = p.others;
      }

  -- What an opening of the gap leaves, and that a record is free then.
  module _ {K : Ghosts C} {t : List (Block C)} {fronts : List (Option ℕ)} {used limit l i : ℕ} {id : Id} {x : C} (w : Insertable K t fronts used limit l i id x) {g : found.Gap} where
    abbrev pub shut : GapIs K i (blocks_of t fronts l) g → g.needs < limit - used → Closed K t used g
    shut gap free = closed w.shape w.known gap w.within (omega (arith, w.fits, free))

    pub now_open : {mid : List (Block C)} {j : ℕ} (gap : GapIs K i (blocks_of t fronts l) g) → g.needs < limit - used → ((y : Closed K t used g) → Opened K t mid y.fronts used y.list y.index g j)
        → Opened K t mid fronts used l i g j × (j < limit)
    now_open gap free opens =
        let o = opens (shut gap free) in
        (o, omega (arith, o.records, gap.needs, free))

  -- Once the gap is open, in the first free record.
  module _ {K : Ghosts C} {t : List (Block C)} {fronts : List (Option ℕ)} {used limit l i : ℕ} {id : Id} {x : C} (w : Insertable K t fronts used limit l i id x)
      {mid : List (Block C)} {g : found.Gap} {j : ℕ} (o : Opened K t mid fronts used l i g j) (shape : Shape K w.words mid j fronts) (room : j < limit) (long : length mid ≡ length t) where
    abbrev pub put_here : (left : Option ℕ) → left ≡ left_of g.place → Puttable K mid l (front_of fronts l) left j
    put_here left e = record {
      pre = o.pre;
      post = o.post;
      stands = shape.stands l;
      parts = o.changed.is;
      ends = o.left ∙ sym e;
      numbered = S.all_map (Good K w.words) (λ c. Numbered K c.face) _ (λ c good. good.numbered) (shape.good l);
      room = (let f = w.fits in omega arith);
      free = S.free shape l;
    }

    module _ {links : Links} {u : List (Block C)} {begin : Option ℕ} {r : ℕ} (b : NewBlock K links mid u l begin j id x o.pre o.post r) where
      put_changed : Changed mid u fronts (set fronts l begin) l (o.pre ++ cell j (new_face K o.pre o.post id r x) ∷ o.post)
      put_changed = record {
        stands = subst (λ q. Stands u l q) (sym (get_or-set_same fronts l begin None w.known)) b.stands;
        is = ap (cells u) (get_or-set_same fronts l begin None w.known) ∙ b.now_cells;
        others = λ m ne. b.others m (front_of fronts m) ne (shape.stands m) (S.free shape m);
        fronts_same = λ m ne. get_or-set_other fronts l m begin None (λ e. ne (sym e));
        fronts_many = length-set fronts l begin;
      }

      pub inserted : InsertDone K links t u fronts (set fronts l begin) used limit l i id x (record { links = r; used = j + 1 })
      inserted = record {
        pre = o.pre;
        post = o.post;
        gapped = o.gapped;
        joins = b.joins;
        changed = subst (λ n. Changed t u fronts (set fronts l begin) l (o.pre ++ cell n (new_face K o.pre o.post id r x) ∷ o.post)) o.records (S.then o.changed put_changed);
        records = (let e = o.records in omega arith);
        enough = omega arith;
      }

      pub inserted_shape : (n : ℕ) → Shape K n mid j fronts → K.reach x ≤ n → length u ≡ length t → Shape K n u (j + 1) (set fronts l begin)
      inserted_shape n s fits same =
          let low : AllByRecursion (λ c. c.at < j) (o.pre ++ o.post) = subst (λ (cs : List (Cell C)). AllByRecursion (λ c. c.at < j) cs) o.changed.is (s.low l) in
          let good : AllByRecursion (Good K n) (o.pre ++ o.post) = subst (λ (cs : List (Cell C)). AllByRecursion (Good K n) cs) o.changed.is (s.good l) in
          S.shape_changed put_changed K n j (j + 1) s w.known (omega arith) (let f = w.fits in omega arith)
          (S.all_put (λ c. c.at < j + 1) o.pre _ o.post (S.lower j (j + 1) _ (omega arith) low) (omega arith))
          (S.all_put (Good K n) o.pre _ o.post good (record { numbered = record { some = w.some; ids = w.ids }; fits = fits }))
          (let e : length (blocks_of mid fronts l) ≡ length (o.pre ++ o.post) = ap length o.changed.is in
          omega (arith, e, length-append o.pre o.post, length-append o.pre (cell j (new_face K o.pre o.post id r x) ∷ o.post)))
