-- A new block, and the law.
use Rattle.std.proofs.Common.{◌≡◌, ℕ, ◌+◌, ◌-◌, ◌<◌, ◌≤◌, false, ◌&&◌, ◌||◌, List, [], ◌∷◌, ◌++◌, length, Some, Option, sym, refl, ap, ◌∙◌, subst, ap₂, arith}
use Rattle.std.specs.Option.{option_map}
use Rattle.std.specs.List.{AllByRecursion}
use Rattle.content.specs.declared.content.Content.{Ghosts}
use Rattle.content.specs.Lawful.{Lawful}
use Rattle.source.specs.declared.id.Id.{Id}
use Rattle.law.specs.Plain.{Plain, gap, put, after}
use Rattle.law.specs.Plain.Deed.{Inserted}
use Rattle.law.specs.Faces as law
use Rattle.law.specs.Faces.{Law, laid, bit, JustLinks}
use Rattle.law.specs.Joins as rule
use Rattle.law.specs.Joins.{last_of, first_of, links_of, starts_here, ends_here}
use Rattle.law.specs.Changes as changes
use Rattle.law.proofs.Basics.{put_same, put_other}
use Rattle.law.proofs.Laid.{laid-append}
use Rattle.law.proofs.Laws.{laws}
use Rattle.registry.specs.declared.links.Links.{Links}
use Rattle.registry.specs.Links.{plain_id, link_in}
use Rattle.table.specs.declared.block.Block.{Block}
use Rattle.table.specs.Cells.{Cell, cell}
use Rattle.table.specs.Gaps.{last_id, last_links, first_id, first_links}
use Rattle.table.proofs.Paths.{all_front}
use Rattle.block_store.specs.declared.branch.Outcome.{Outcome}
use Rattle.block_store.specs.Lists.{blocks_of, Good}
use Rattle.block_store.specs.Gaps.{gap_needs}
use Rattle.block_store.specs.Inserts.{new_face, Joins, InsertDone}
use Rattle.block_store.proofs.Gaps.{gapped_good}
use Rattle.view.specs.View.{shown, view}
use Rattle.view.proofs.Views.{view_at, shown-append, law_changed}
use Rattle.view.proofs.Gaps.{gap_is, gapped_law}

module _ {C : Type 0} (K : Ghosts C) (kind : Lawful K) (ws : List ℕ) where
  -- The neighbours of a gap, as blocks and as faces.
  left_links : (pre : List (Cell C)) → links_of (last_of (shown K ws pre)) ≡ last_links pre
  left_links [] = refl
  left_links (c ∷ []) = refl
  left_links (c ∷ d ∷ cs) = left_links (d ∷ cs)

  right_links : (post : List (Cell C)) → links_of (first_of (shown K ws post)) ≡ first_links post
  right_links [] = refl
  right_links (c ∷ cs) = refl

  left_id : (pre : List (Cell C)) → AllByRecursion (Good K (length ws)) pre → option_map rule.last_id (last_of (shown K ws pre)) ≡ option_map plain_id (last_id K pre)
  left_id [] good = refl
  left_id (c ∷ []) good = ap (λ n. Some (record { client = c.face.id.client; clock = c.face.id.clock + (n - 1) })) (kind.sized ws c.face.content good.0.fits)
  left_id (c ∷ d ∷ cs) good = left_id (d ∷ cs) good.1

  right_id : (post : List (Cell C)) → option_map rule.first_id (first_of (shown K ws post)) ≡ option_map plain_id (first_id post)
  right_id [] = refl
  right_id (c ∷ cs) = refl

  joined : (p : Plain) (links : Links) (l : ℕ) (pre post : List (Cell C)) (w : ℕ) → AllByRecursion (Good K (length ws)) pre → ((n : ℕ) → link_in links n ≡ p.links n)
      → Joins K links l pre post w → rule.Joins p l (last_of (shown K ws pre)) (first_of (shown K ws post)) w
  joined p links l pre post w good live j n =
      j n
      ∙ sym (ap₂ ◌&&◌
      (ap₂ ◌||◌ (ap (bit n) (left_links pre)) (ap₂ (λ s o. starts_here s l o) (sym (live n)) (left_id pre good)))
      (ap₂ ◌||◌ (ap (bit n) (right_links post)) (ap₂ (λ s o. ends_here s l o) (sym (live n)) (right_id post))))

  module _ (links : Links) (t u : List (Block C)) (fronts now-fronts : List (Option ℕ)) (used limit l i : ℕ) (id : Id) (x : C) (o : Outcome)
      (d : InsertDone K links t u fronts now-fronts used limit l i id x o) (good : AllByRecursion (Good K (length ws)) (blocks_of t fronts l)) (some : 0 < K.size x) (fits : K.reach x ≤ length ws)
      (p : Plain) (live : (n : ℕ) → link_in links n ≡ p.links n) (clock : id.clock ≡ p.counts id.client) (held : Law (view K ws t fronts) p) where
    -- The faces once the gap is open.
    abbrev pub open_faces : ℕ → List law.Face
    open_faces = put l (shown K ws (d.pre ++ d.post)) (view K ws t fronts)

    open_law : Law open_faces p
    open_law = gapped_law K kind ws (view K ws t fronts) p l d.gapped (view_at K ws t fronts l _ refl) good held

    pre_good : AllByRecursion (Good K (length ws)) d.pre
    pre_good = all_front (Good K (length ws)) d.pre d.post (gapped_good (length ws) kind d.gapped good)

    open_parts : open_faces l ≡ shown K ws d.pre ++ shown K ws d.post
    open_parts = put_same l _ (view K ws t fronts) ∙ shown-append K ws d.pre d.post

    pub gap_here : length (laid (shown K ws d.pre)) ≡ gap i (p.lists l)
    gap_here =
        gap_is K kind ws d.pre (laid (shown K ws d.post)) pre_good d.gapped.ends
        ∙ ap₂ gap d.gapped.before (sym (laid-append (shown K ws d.pre) (shown K ws d.post)) ∙ ap laid (sym open_parts) ∙ open_law.holds l)

    inserts : changes.Inserts open_faces p l i o.links (K.units ws x) (shown K ws d.pre) (shown K ws d.post)
    inserts = record {
      parts = open_parts;
      at_gap = gap_here;
      some = (let n : length (K.units ws x) ≡ K.size x = kind.sized ws x fits in omega arith);
      joins = joined p links l d.pre d.post o.links pre_good live d.joins;
    }

    pub insert_law : Law (view K ws u now-fronts) (after p (Inserted l id.client i (K.counts x) (K.units ws x)))
    insert_law =
        law_changed K ws d.changed _ _
        (put_same l _ open_faces ∙ ap (λ n. shown K ws d.pre ++ record { first = record { client = id.client; clock = n }; removed = false; links = o.links; countable = K.counts x; units = K.units ws x } ∷ shown K ws d.post) (sym clock)
        ∙ sym (shown-append K ws d.pre (cell (used + gap_needs K i (blocks_of t fronts l)) (new_face K d.pre d.post id o.links x) ∷ d.post)))
        (λ m ne. put_other l m _ open_faces (λ q. ne (sym q)) ∙ put_other l m _ (view K ws t fronts) (λ q. ne (sym q)))
        (laws.insert_keeps _ p l i id.client o.links (K.counts x) (K.units ws x) (shown K ws d.pre) (shown K ws d.post) open_law inserts)

    -- The new block's link set is just the live links whose range then holds it.
    pub insert_links : JustLinks (after p (Inserted l id.client i (K.counts x) (K.units ws x))) l (gap i (p.lists l)) (length (K.units ws x)) o.links
    insert_links =
        subst (λ g. JustLinks (after p (Inserted l id.client i (K.counts x) (K.units ws x))) l g (length (K.units ws x)) o.links) gap_here
        (laws.insert_links _ p l i id.client o.links (K.counts x) (K.units ws x) (shown K ws d.pre) (shown K ws d.post) open_law inserts)
