-- A removal, and the law.
use Rattle.std.proofs.Common.{◌≡◌, ℕ, Bool, true, false, cond, not, ◌&&◌, ◌||◌, List, [], ◌∷◌, ◌++◌, map, length, Option, sym, refl, ap, ◌∙◌, ap₂, inl}
use lib.Bits.{bit_or}
use Rattle.std.specs.List.{AllByRecursion}
use Rattle.content.specs.declared.content.Content.{Ghosts}
use Rattle.content.specs.Lawful.{Lawful}
use Rattle.law.specs.Plain.{Plain, put, after}
use Rattle.law.specs.Plain.Deed.{Removed}
use Rattle.law.specs.Faces as law
use Rattle.law.specs.Faces.{Law, laid, bit, held}
use Rattle.law.specs.Changes as changes
use Rattle.law.specs.Changes.{hides_any}
use Rattle.law.proofs.Basics.{put_same, put_other}
use Rattle.law.proofs.Laws.{laws}
use Rattle.marking.specs.Strikes.{struck_cell, union}
use Rattle.table.specs.declared.block.Block.{Block}
use Rattle.table.specs.Cells.{Cell}
use Rattle.table.proofs.Paths.{all_front, all_back}
use Rattle.block_store.specs.declared.branch.Outcome.{Outcome}
use Rattle.block_store.specs.Lists.{blocks_of, Good}
use Rattle.block_store.specs.Removes.{RemoveDone}
use Rattle.block_store.proofs.Gaps.{gapped_good}
use Rattle.view.specs.View.{shown, view}
use Rattle.view.proofs.Views.{view_at, shown-append, seen-shown, law_changed}
use Rattle.view.proofs.Gaps.{gapped_law}

either : (c r : Bool) → cond c true r ≡ (c || r)
either true r = refl
either false r = refl

module _ {C : Type 0} (K : Ghosts C) (kind : Lawful K) (ws : List ℕ) where
  shown-struck : (cs : List (Cell C)) → shown K ws (map (struck_cell K) cs) ≡ map changes.struck (shown K ws cs)
  shown-struck [] = refl
  shown-struck (c ∷ cs) =
      ap₂ (λ (r : Bool) (fs : List law.Face). record { first = record { client = c.face.id.client; clock = c.face.id.clock }; removed = r; links = c.face.links; countable = K.counts c.face.content; units = K.units ws c.face.content } ∷ fs)
      (either (K.counts c.face.content) c.face.removed) (shown-struck cs)

  union-shown : (cs : List (Cell C)) → changes.union (shown K ws cs) ≡ union K cs
  union-shown [] = refl
  union-shown (c ∷ cs) = ap (λ n. cond (K.counts c.face.content && not c.face.removed) (bit_or c.face.links n) n) (union-shown cs)

  module _ (t u : List (Block C)) (fronts : List (Option ℕ)) (used limit l i n : ℕ) (o : Outcome) (d : RemoveDone K t u fronts used limit l i n o)
      (good : AllByRecursion (Good K (length ws)) (blocks_of t fronts l)) (p : Plain) (lawful : Law (view K ws t fronts) p) where
    mid_good : AllByRecursion (Good K (length ws)) (d.upto ++ d.rest)
    mid_good = gapped_good (length ws) kind d.after_last good

    cut_good : AllByRecursion (Good K (length ws)) (d.pre ++ (d.ms ++ d.ys))
    cut_good = gapped_good (length ws) kind d.before_first mid_good

    abbrev pub mid_faces : ℕ → List law.Face
    mid_faces = put l (shown K ws (d.upto ++ d.rest)) (view K ws t fronts)

    abbrev pub cut_faces : ℕ → List law.Face
    cut_faces = put l (shown K ws (d.pre ++ (d.ms ++ d.ys))) mid_faces

    cut_law : Law cut_faces p
    cut_law =
        gapped_law K kind ws _ p l d.before_first (put_same l _ (view K ws t fronts)) mid_good
        (gapped_law K kind ws (view K ws t fronts) p l d.after_last (view_at K ws t fronts l _ refl) good lawful)

    removes : changes.Removes cut_faces l i n (shown K ws d.pre) (shown K ws d.ms) (shown K ws d.ys)
    removes = record {
      parts = put_same l _ mid_faces ∙ shown-append K ws d.pre (d.ms ++ d.ys) ∙ ap (λ fs. shown K ws d.pre ++ fs) (shown-append K ws d.ms d.ys);
      before = seen-shown K ws kind d.pre (all_front (Good K (length ws)) d.pre (d.ms ++ d.ys) cut_good) ∙ d.before_first.before;
      reach = inl (seen-shown K ws kind d.ms (all_front (Good K (length ws)) d.ms d.ys (all_back (Good K (length ws)) d.pre (d.ms ++ d.ys) cut_good)) ∙ d.sum);
    }

    pub remove_law : Law (view K ws u fronts) (after p (Removed l i n))
    remove_law =
        law_changed K ws d.changed _ _
        (put_same l _ cut_faces
        ∙ sym (shown-append K ws d.pre (map (struck_cell K) d.ms ++ d.ys)
        ∙ ap (λ fs. shown K ws d.pre ++ fs) (shown-append K ws (map (struck_cell K) d.ms) d.ys ∙ ap (λ fs. fs ++ shown K ws d.ys) (shown-struck d.ms))))
        (λ m ne. put_other l m _ cut_faces (λ q. ne (sym q)) ∙ put_other l m _ mid_faces (λ q. ne (sym q)) ∙ put_other l m _ (view K ws t fronts) (λ q. ne (sym q)))
        (laws.remove_keeps _ p l i n (shown K ws d.pre) (shown K ws d.ms) (shown K ws d.ys) cut_law removes)

    -- The answered link set is the live links that hold an entry which the removal marks.
    pub remove-links : (k : ℕ) → bit k o.links ≡ hides_any (held p l k) 0 (p.lists l) ((after p (Removed l i n)).lists l)
    remove-links k =
        ap (bit k) (d.links ∙ sym (union-shown d.ms))
        ∙ laws.remove_answers _ p l i n (shown K ws d.pre) (shown K ws d.ms) (shown K ws d.ys) cut_law removes k
