-- The faces of lists that change.
use Rattle.std.proofs.Common.{◌≡◌, ℕ, ◌+◌, Bool, true, false, cond, not, ◌&&◌, ◌≢◌, ◌⊎◌, List, [], ◌∷◌, ◌++◌, length, Option, sym, refl, ap, ◌∙◌, subst, ap₂, inl, inr}
use Rattle.std.proofs.lemmas.Bool.{cases_eq}
use Rattle.std.specs.List.{AllByRecursion}
use Rattle.content.specs.declared.content.Content.{Ghosts}
use Rattle.content.specs.Lawful.{Lawful}
use Rattle.law.specs.Plain.{Plain, seen, put}
use Rattle.law.specs.Faces as law
use Rattle.law.specs.Faces.{Law, laid, entries}
use Rattle.law.proofs.Basics.{put_same, put_other, many-append}
use Rattle.law.proofs.Laid.{seen-entries}
use Rattle.law.proofs.Laws.{laws}
use Rattle.table.specs.declared.block.Block.{Block}
use Rattle.table.specs.Cells.{Cell}
use Rattle.table.specs.Lookups as lookups
use Rattle.block_store.specs.Lists.{blocks_of, Good, Changed}
use Rattle.block_store.proofs.Shapes.{other_blocks}
use Rattle.view.specs.View.{shows, shown, view}

-- A face of as many visible units as its block.
two_tests : (r c : Bool) (n : ℕ) → cond (c && not r) n 0 ≡ cond r 0 (cond c n 0)
two_tests true true n = refl
two_tests true false n = refl
two_tests false true n = refl
two_tests false false n = refl

module _ {C : Type 0} (K : Ghosts C) (ws : List ℕ) where
  pub view_at : (t : List (Block C)) (fronts : List (Option ℕ)) (l : ℕ) (cs : List (Cell C)) → blocks_of t fronts l ≡ cs → view K ws t fronts l ≡ shown K ws cs
  unfolding view
  view_at t fronts l cs e = ap (shown K ws) e

  pub shown-append : (xs ys : List (Cell C)) → shown K ws (xs ++ ys) ≡ shown K ws xs ++ shown K ws ys
  shown-append [] ys = refl
  shown-append (x ∷ xs) ys = ap (λ zs. shows K ws x.face ∷ zs) (shown-append xs ys)

  pub seen-shown : Lawful K → (cs : List (Cell C)) → AllByRecursion (Good K (length ws)) cs → seen (laid (shown K ws cs)) ≡ lookups.visible K cs
  seen-shown kind [] good = refl
  seen-shown kind (c ∷ cs) good =
      many-append _ (entries (shows K ws c.face)) (laid (shown K ws cs))
      ∙ ap₂ ◌+◌
      (seen-entries _ (K.counts c.face.content) c.face.removed (K.units ws c.face.content)
      ∙ two_tests c.face.removed (K.counts c.face.content) _
      ∙ ap (λ n. cond c.face.removed 0 (cond (K.counts c.face.content) n 0)) (kind.sized ws c.face.content good.0.fits))
      (seen-shown kind cs good.1)

  -- Faces that are those of the table but for list l, and there those of the blocks that it has become.
  pub law_changed : {t u : List (Block C)} {fronts now-fronts : List (Option ℕ)} {l : ℕ} {cs : List (Cell C)} → Changed t u fronts now-fronts l cs
      → (F : ℕ → List law.Face) (p : Plain) → F l ≡ shown K ws cs → ((m : ℕ) → l ≢ m → F m ≡ view K ws t fronts m) → Law F p → Law (view K ws u now-fronts) p
  law_changed {t} {u} {fronts} {now-fronts} {l} {cs} w F p here other held = laws.same_faces F (view K ws u now-fronts) p (λ m. each m (cases_eq l m)) held
    where
      each : (m : ℕ) → (l ≡ m) ⊎ (l ≡ m → ⊥) → F m ≡ view K ws u now-fronts m
      each m (inl e) = subst (λ z. F z ≡ view K ws u now-fronts z) e (here ∙ sym (view_at u now-fronts l cs w.is))
      each m (inr ne) = other m ne ∙ view_at t fronts m _ (sym (other_blocks w m ne)) ∙ sym (view_at u now-fronts m _ refl)

  -- A list that is put in the place of what it is.
  pub put_as_is : (F : ℕ → List law.Face) (p : Plain) (l : ℕ) (fs : List law.Face) → F l ≡ fs → Law F p → Law (put l fs F) p
  put_as_is F p l fs e held = laws.same_faces F (put l fs F) p (λ m. each m (cases_eq l m)) held
    where
      each : (m : ℕ) → (l ≡ m) ⊎ (l ≡ m → ⊥) → F m ≡ put l fs F m
      each m (inl same) = subst (λ z. F z ≡ put l fs F z) same (e ∙ sym (put_same l fs F))
      each m (inr ne) = sym (put_other l m fs F (λ q. ne (sym q)))
