-- Which ids stand in the lists.
use Rattle.std.proofs.Common.{◌≡◌, ℕ, ◌+◌, ◌-◌, ◌^◌, ◌<◌, ◌≤◌, List, [], ◌∷◌, ◌++◌, length, Option, sym, refl, ap, ◌∙◌, subst, inl, inr, arith}
use lib.Count.{ones}
use Rattle.std.proofs.lemmas.Bool.{cases_lt}
use Rattle.std.specs.List.{AllByRecursion}
use Rattle.content.specs.declared.content.Content.{Ghosts}
use Rattle.content.specs.Lawful.{Lawful}
use Rattle.source.specs.declared.id.Id.{Id}
use Rattle.law.specs.Plain.{Plain, has_id, place, times}
use Rattle.law.specs.Faces as law
use Rattle.law.specs.Faces.{Law, entries, held, laid}
use Rattle.law.specs.Finds.{In, many_links}
use Rattle.law.proofs.Basics.{many-append}
use Rattle.law.proofs.Ids.{times_in}
use Rattle.law.proofs.Laid.{laid-append}
use Rattle.law.proofs.Laws.{laws}
use Rattle.registry.specs.Links.{plain_id}
use Rattle.table.specs.declared.block.Block.{Block}
use Rattle.table.specs.Cells.{Cell, cell}
use Rattle.table.specs.Lookups.{Lacks, FoundAt}
use Rattle.block_store.specs.Lists.{blocks_of, Good}
use Rattle.block_store.specs.Locates.{Nowhere}
use Rattle.block_store.proofs.Shapes.{all_at}
use Rattle.view.specs.View.{shows, shown, view}
use Rattle.view.proofs.Views.{view_at, shown-append}

module _ {C : Type 0} (K : Ghosts C) (kind : Lawful K) (ws : List ℕ) (t : List (Block C)) (fronts : List (Option ℕ)) (id : Id)
    (good : (l : ℕ) → AllByRecursion (Good K (length ws)) (blocks_of t fronts l)) (p : Plain) (lawful : Law (view K ws t fronts) p) where
  lacking : (cs : List (Cell C)) (xs : List law.Face) (f : law.Face) (ys : List law.Face) → AllByRecursion (Good K (length ws)) cs → Lacks K id cs → shown K ws cs ≡ xs ++ f ∷ ys → In (plain_id id) f → ⊥
  lacking [] [] f ys g lacks e h = let z : ◌≡◌ {A = ℕ} 0 1 = cc in omega arith
  lacking [] (x ∷ xs) f ys g lacks e h = let z : ◌≡◌ {A = ℕ} 0 1 = cc in omega arith
  lacking (c ∷ cs) [] f ys g lacks e h =
      let same : f ≡ shows K ws c.face = cc in
      let q : In (plain_id id) (shows K ws c.face) = subst (λ (y : law.Face). In (plain_id id) y) same h in
      let n : length (K.units ws c.face.content) ≡ K.size c.face.content = kind.sized ws c.face.content g.0.fits in
      let low : c.face.id.clock ≤ id.clock = q.1 in
      let high : id.clock < c.face.id.clock + length (K.units ws c.face.content) = q.2 in
      lacks.0 (id.clock - c.face.id.clock) (record { client = sym q.0; clock = omega arith; inside = omega arith })
  lacking (c ∷ cs) (x ∷ xs) f ys g lacks e h = lacking cs xs f ys g.1 lacks.1 (let rest : shown K ws cs ≡ xs ++ f ∷ ys = cc in rest) h

  -- An id that no list has was never inserted.
  pub never_inserted : Nowhere K id t fronts → p.counts id.client ≤ id.clock
  never_inserted lacks = elim (cases_lt id.clock (p.counts id.client)) [
    | inl lt ↦
        (let f = laws.id_found (view K ws t fronts) p (plain_id id) lawful lt in
        absurd (lacking (blocks_of t fronts f.0) f.1 f.2 f.3 (good f.0) (lacks f.0) (sym (view_at K ws t fronts f.0 _ refl) ∙ f.4) f.5))
    | inr le ↦ omega arith
  ]

  module _ (l i o : ℕ) (w : FoundAt K id (blocks_of t fronts l) i o) where
    parts : view K ws t fronts l ≡ shown K ws w.pre ++ shows K ws w.face ∷ shown K ws w.post
    parts = view_at K ws t fronts l _ w.parts ∙ shown-append K ws w.pre (cell i w.face ∷ w.post)

    in_face : In (plain_id id) (shows K ws w.face)
    in_face =
        let g : Good K (length ws) (cell i w.face) = all_at (Good K (length ws)) w.pre (cell i w.face) w.post (subst (λ (cs : List (Cell C)). AllByRecursion (Good K (length ws)) cs) w.parts (good l)) in
        let n : length (K.units ws w.face.content) ≡ K.size w.face.content = kind.sized ws w.face.content g.fits in
        let a = w.has.clock in
        let b = w.has.inside in
        (sym w.has.client, omega arith, omega arith)

    -- One that a list has was inserted.
    pub was_inserted : id.clock < p.counts id.client
    was_inserted = laws.id_counted (view K ws t fronts) p l (plain_id id) (shown K ws w.pre) (shows K ws w.face) (shown K ws w.post) lawful parts in_face

    -- It stands in the plain list.
    pub stands_there : 0 < times (plain_id id) (p.lists l)
    stands_there =
        let f : law.Face = shows K ws w.face in
        let e : p.lists l ≡ laid (shown K ws w.pre) ++ (entries (shows K ws w.face) ++ laid (shown K ws w.post)) = sym (lawful.holds l) ∙ ap laid parts ∙ laid-append (shown K ws w.pre) (shows K ws w.face ∷ shown K ws w.post) in
        let one : times (plain_id id) (entries (shows K ws w.face)) ≡ 1 = times_in (plain_id id) f.first f.countable f.removed f.units in_face.0 in_face.1 in_face.2 in
        let all : times (plain_id id) (p.lists l) ≡ times (plain_id id) (laid (shown K ws w.pre)) + (times (plain_id id) (entries (shows K ws w.face)) + times (plain_id id) (laid (shown K ws w.post))) =
        ap (times (plain_id id)) e ∙ many-append (has_id (plain_id id)) (laid (shown K ws w.pre)) (entries (shows K ws w.face) ++ laid (shown K ws w.post))
        ∙ ap (λ n. times (plain_id id) (laid (shown K ws w.pre)) + n) (many-append (has_id (plain_id id)) (entries (shows K ws w.face)) (laid (shown K ws w.post))) in
        omega arith

    -- The ones in its block's link set are as many as the live links that hold it.
    pub links-held : w.face.links < 2 ^ 64 → ones w.face.links ≡ many_links (λ n. held p l n (place (plain_id id) (p.lists l)))
    links-held small = laws.links_counted (view K ws t fronts) p l (plain_id id) (shown K ws w.pre) (shows K ws w.face) (shown K ws w.post) lawful parts in_face small
