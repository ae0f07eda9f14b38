-- What the walk of strike does to a list.
use Rattle.std.proofs.Common.{◌≡◌, ℕ, ◌+◌, ◌-◌, ◌<◌, ◌≤◌, Bool, true, false, cond, not, ◌&&◌, List, [], ◌∷◌, ◌++◌, map, length, get_or, set, Some, None, Option, sym, refl, ap, ◌∙◌, subst, ap₂, arith}
use lib.Bits.{bit_or, or_zero_r}
use Rattle.std.specs.List.{AllByRecursion}
use Rattle.content.specs.declared.content.Content.{Ghosts}
use Rattle.table.specs.declared.block.Block.{Block}
use Rattle.table.specs.Cells.{Face, Cell, cell, block, face_of, front, cells}
use Rattle.table.specs.Lookups.{shown, visible}
use Rattle.table.proofs.Paths.{none_some, all_front, all_back}
use Rattle.table.proofs.Walks.{Opened, opened, shown_some}
use Rattle.marking.specs.Strikes.{struck, struck_cell, in_sight, union, Strikable, Struck}
use Rattle.marking.proofs.Marks.{Marking, marking_start, marking_within, marking_falls, marking_face, marking_write, marking_stands, marking_cells, marking_others}
use Rattle.marking.proofs.Unions.{or_assoc}

-- What the code writes.
abbrev gone : {C : Type 0} → Block C → Block C
gone b = record { id = b.id; list = b.list; left = b.left; right = b.right; origin = b.origin; right_origin = b.right_origin; removed = true; links = b.links; content = b.content }

-- A face of no visible unit stays as it is.
out_of_sight : (removed counts : Bool) (n : ℕ) → 0 < n → cond removed 0 (cond counts n 0) ≡ 0 → (counts && not removed) ≡ false
out_of_sight true true n lt e = refl
out_of_sight true false n lt e = refl
out_of_sight false true n lt e = absurd (omega arith)
out_of_sight false false n lt e = refl

mark_same : (counts removed : Bool) → (counts && not removed) ≡ false → cond counts true removed ≡ removed
mark_same true true e = refl
mark_same true false e = e
mark_same false removed e = refl

module _ {C : Type 0} (K : Ghosts C) where
  struck_same : (f : Face C) → in_sight K f ≡ false → struck K f ≡ f
  struck_same f e = ap (λ (r : Bool). record { id = f.id; origin = f.origin; right_origin = f.right_origin; removed = r; links = f.links; content = f.content }) (mark_same (K.counts f.content) f.removed e)

  unseen : (f : Face C) → 0 < K.size f.content → shown K f ≡ 0 → in_sight K f ≡ false
  unseen f = out_of_sight f.removed (K.counts f.content) (K.size f.content)

  unseen_cells : (cs : List (Cell C)) → AllByRecursion (λ c. 0 < K.size c.face.content) cs → visible K cs ≡ 0 → (map (struck_cell K) cs ≡ cs) × (union K cs ≡ 0)
  unseen_cells [] a e = (refl, refl)
  unseen_cells (c ∷ cs) a e =
      let none : in_sight K c.face ≡ false = unseen c.face a.0 (omega arith) in
      let more = unseen_cells cs a.1 (omega arith) in (
        ap₂ ◌∷◌ (ap (λ (f : Face C). cell c.at f) (struck_same c.face none)) more.0,
        ap (λ (seen : Bool). cond seen (bit_or c.face.links (union K cs)) (union K cs)) none ∙ more.1,
      )

  turn : (i : ℕ) (rest ys : List (Cell C)) → front (rest ++ ys) ≡ Some i → 0 < visible K rest → Opened i rest
  turn i [] ys e lt = absurd (omega arith)
  turn i (c ∷ cs) ys e lt = opened i (c ∷ cs) e

  none_left : (rest ys : List (Cell C)) → front (rest ++ ys) ≡ None → visible K rest ≡ 0
  none_left [] ys e = refl
  none_left (c ∷ cs) ys e = absurd (none_some c.at (sym e))

-- How far strike has come: so many visible units are left to be marked, and links is the union over the cells done.
pub record Striking {C : Type 0} (K : Ghosts C) (t : List (Block C)) (from : Option ℕ) (n : ℕ) (w : Strikable K t from n) (u : List (Block C)) (cur : Option ℕ) (left links : ℕ) : Type 0 where
  pub walk : Marking (struck K) t w.list w.pre w.ms w.ys u cur
  pub owed : visible K walk.rest ≡ left
  pub joins : bit_or links (union K walk.rest) ≡ union K w.ms

module _ {C : Type 0} {K : Ghosts C} {t : List (Block C)} {from : Option ℕ} {n : ℕ} (w : Strikable K t from n) where
  pub strike_start : Striking K t from n w t from n 0
  strike_start = record { walk = marking_start w.stands w.parts w.at_hand; owed = w.sum; joins = refl }

  module _ {u : List (Block C)} {cur : Option ℕ} {left links : ℕ} (s : Striking K t from n w u cur left links) where
    filled : AllByRecursion (λ c. 0 < K.size c.face.content) s.walk.rest
    filled =
        let P : Cell C → Type 0 = λ c. 0 < K.size c.face.content in
        let ms : AllByRecursion P w.ms = all_front P w.ms w.ys (all_back P w.pre (w.ms ++ w.ys) (subst (λ (xs : List (Cell C)). AllByRecursion P xs) w.parts w.filled)) in
        all_back P s.walk.done s.walk.rest (subst (λ (xs : List (Cell C)). AllByRecursion P xs) s.walk.parts ms)

    pub strike-done : left ≡ 0 → Struck K t from n w u links
    strike-done e =
        let none = unseen_cells K s.walk.rest filled (s.owed ∙ e) in
        record {
          stands = marking_stands s.walk w.stands w.parts none.0;
          now_cells = marking_cells s.walk w.stands w.parts none.0;
          others = marking_others s.walk;
          elsewhere = s.walk.elsewhere;
          links = sym (or_zero_r links) ∙ ap (λ k. bit_or links k) (sym none.1) ∙ s.joins;
        }

    pub strike_end : cur ≡ None → Struck K t from n w u links
    strike_end e = strike-done (sym s.owed ∙ none_left K s.walk.rest w.ys (s.walk.at_hand ∙ e))

    module _ {i : ℕ} (e : cur ≡ Some i) (some : 0 < left) where
      next : Opened i s.walk.rest
      next = turn K i s.walk.rest w.ys (s.walk.at_hand ∙ e) (subst (λ k. 0 < k) (sym s.owed) some)

      pub strike-within : i < length u
      strike-within = marking_within s.walk next

      module _ {b : Block C} (read : b ≡ get_or u i b) where
        owed : shown K (face_of b) + visible K next.rest ≡ left
        owed = ap (λ (f : Face C). shown K f + visible K next.rest) (marking_face s.walk next read) ∙ sym (ap (visible K) next.parts) ∙ s.owed

        joins : bit_or links (cond (in_sight K (face_of b)) (bit_or b.links (union K next.rest)) (union K next.rest)) ≡ union K w.ms
        joins =
            ap (λ (f : Face C). bit_or links (union K (cell i f ∷ next.rest))) (marking_face s.walk next read)
            ∙ sym (ap (λ (xs : List (Cell C)). bit_or links (union K xs)) next.parts) ∙ s.joins

        pub strike_enough : shown K (face_of b) ≤ left
        strike_enough = let e = owed in omega arith

        -- A visible block.
        module _ (some_seen : 0 < shown K (face_of b)) where
          flags : (b.removed ≡ false) × (K.counts b.content ≡ true) × (shown K (face_of b) ≡ K.size b.content)
          flags = shown_some K (face_of b) some_seen

          seen : in_sight K (face_of b) ≡ true
          seen = rw (flags.0, flags.1)

          gone_is : gone b ≡ block b.list b.left b.right (struck K (face_of b))
          gone_is = rw flags.1

          pub strike-mark : (k : ℕ) → k ≡ shown K (face_of b) → Striking K t from n w (set u i (gone b)) b.right (left - k) (bit_or links b.links)
          strike-mark k is = record {
            walk = marking_write s.walk next read gone_is;
            owed = let e = owed in omega arith;
            joins = or_assoc links b.links (union K next.rest)
                ∙ ap (λ (test : Bool). bit_or links (cond test (bit_or b.links (union K next.rest)) (union K next.rest))) (sym seen) ∙ joins;
          }

          pub strike_mark_falls : length (cells (set u i (gone b)) b.right) < length (cells u cur)
          strike_mark_falls = marking_falls s.walk next (marking_write s.walk next read gone_is) refl

        -- A block that has no visible unit.
        module _ (none_seen : shown K (face_of b) ≡ 0) where
          some_unit : 0 < K.size b.content
          some_unit =
              subst (λ (f : Face C). 0 < K.size f.content) (sym (marking_face s.walk next read))
              (subst (λ (xs : List (Cell C)). AllByRecursion (λ c. 0 < K.size c.face.content) xs) next.parts filled).0

          none : in_sight K (face_of b) ≡ false
          none = unseen K (face_of b) some_unit none_seen

          kept : b ≡ block b.list b.left b.right (struck K (face_of b))
          kept = ap (λ (f : Face C). block b.list b.left b.right f) (sym (struck_same K (face_of b) none))

          pub strike_pass : Striking K t from n w (set u i b) b.right left links
          strike_pass = record {
            walk = marking_write s.walk next read kept;
            owed = let e = owed in omega arith;
            joins = ap (λ (test : Bool). bit_or links (cond test (bit_or b.links (union K next.rest)) (union K next.rest))) (sym none) ∙ joins;
          }

          pub strike_pass_falls : length (cells (set u i b) b.right) < length (cells u cur)
          strike_pass_falls = marking_falls s.walk next (marking_write s.walk next read kept) refl
