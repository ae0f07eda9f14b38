-- What is left of a list, block by block.
use Rattle.std.proofs.Common.{◌≡◌, ℕ, ◌+◌, ◌<◌, Bool, true, false, cond, List, [], ◌∷◌, ◌++◌, length, get_or, Some, Option, sym, refl, ap, ◌∙◌, subst, ap₂, append_assoc, arith}
use Rattle.content.specs.declared.content.Content.{Ghosts}
use Rattle.table.specs.declared.block.Block.{Block}
use Rattle.table.specs.Cells.{Face, Cell, cell, block, face_of, front, Path, cells}
use Rattle.table.specs.Lookups.{shown, visible}
use Rattle.table.specs.Walks.{Leads}
use Rattle.table.proofs.Paths.{none_some, some_some, holds_unique}
use Rattle.table.proofs.Computed.{cells_of}

-- The cells xs begin at i.
pub record Opened {C : Type 0} (i : ℕ) (xs : List (Cell C)) : Type 0 where
  pub face : Face C
  pub rest : List (Cell C)
  pub parts : xs ≡ cell i face ∷ rest

pub opened : {C : Type 0} (i : ℕ) (xs : List (Cell C)) → front xs ≡ Some i → Opened i xs
opened i [] e = absurd (none_some i e)
opened i (x ∷ xs) e = record { face = x.face; rest = xs; parts = ap (λ n. cell n x.face ∷ xs) (some_some x.at i e) }

module _ {C : Type 0} {t : List (Block C)} {next : Option ℕ} (w : Leads t next) where
  module _ {i : ℕ} (e : next ≡ Some i) where
    turn : Opened i (cells t next)
    turn = opened i (cells t next) (w.starts ∙ e)

    here : Path t w.list w.before (cell i turn.face ∷ turn.rest)
    here = subst (λ xs. Path t w.list w.before xs) turn.parts w.path

    pub leads_within : i < length t
    leads_within = here.0.within

    module _ {b : Block C} (read : b ≡ get_or t i b) where
      b_is : b ≡ block w.list w.before (front turn.rest) turn.face
      b_is = holds_unique t i b _ (record { within = leads_within; is = read }) here.0

      at_hand : front turn.rest ≡ b.right
      at_hand = ap (λ (y : Block C). y.right) (sym b_is)

      rest_is : cells t b.right ≡ turn.rest
      rest_is = cells_of t w.list (Some i) b.right turn.rest here.1 at_hand

      pub leads_parts : cells t next ≡ cell i (face_of b) ∷ cells t b.right
      leads_parts = turn.parts ∙ ap₂ (λ f xs. cell i f ∷ xs) (ap face_of (sym b_is)) (sym rest_is)

      pub leads_on : Leads t b.right
      leads_on = record {
        list = w.list;
        before = Some i;
        path = subst (λ xs. Path t w.list (Some i) xs) (sym rest_is) here.1;
        starts = ap front rest_is ∙ at_hand;
      }

-- How far a walk along the cells cs has come: over the cells pre, with the cells rest still to come.
pub record Passed {C : Type 0} (cs rest : List (Cell C)) : Type 0 where
  pub pre : List (Cell C)
  pub parts : cs ≡ pre ++ rest

module _ {C : Type 0} {cs rest : List (Cell C)} where
  abbrev pub passed_none : rest ≡ cs → Passed cs rest
  passed_none e = record { pre = []; parts = sym e }

  module _ (p : Passed cs rest) {c : Cell C} {more : List (Cell C)} (e : rest ≡ c ∷ more) where
    pub passed_parts : cs ≡ p.pre ++ c ∷ more
    passed_parts = p.parts ∙ ap (λ xs. p.pre ++ xs) e

    abbrev pub passed_more : Passed cs more
    passed_more = record { pre = p.pre ++ c ∷ []; parts = passed_parts ∙ sym (append_assoc p.pre (c ∷ []) more) }

seen : (r c : Bool) (n : ℕ) → 0 < cond r 0 (cond c n 0) → (r ≡ false) × (c ≡ true) × (cond r 0 (cond c n 0) ≡ n)
seen true c n lt = absurd (omega arith)
seen false true n lt = (refl, refl, refl)
seen false false n lt = absurd (omega arith)

module _ {C : Type 0} (K : Ghosts C) where
  pub visible_more : (xs : List (Cell C)) (i : ℕ) (f : Face C) → visible K (xs ++ cell i f ∷ []) ≡ visible K xs + shown K f
  visible_more [] i f = omega arith
  visible_more (x ∷ xs) i f = let e : visible K (xs ++ cell i f ∷ []) ≡ visible K xs + shown K f = visible_more xs i f in omega arith

  pub shown_all : (f : Face C) → f.removed ≡ false → K.counts f.content ≡ true → shown K f ≡ K.size f.content
  shown_all f r c = rw (r, c)

  -- A face that has visible units shows all of them.
  pub shown_some : (f : Face C) → 0 < shown K f → (f.removed ≡ false) × (K.counts f.content ≡ true) × (shown K f ≡ K.size f.content)
  shown_some f = seen f.removed (K.counts f.content) (K.size f.content)
