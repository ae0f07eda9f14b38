-- A block cut in two, and the law.
use Rattle.std.proofs.Common.{◌≡◌, ℕ, ◌+◌, ◌<◌, ◌≤◌, Bool, List, [], ◌∷◌, ◌++◌, length, take, drop, sym, refl, ap, ◌∙◌, subst, ap₂, arith}
use Rattle.std.proofs.lemmas.List.Prefix.{front_rest}
use Rattle.std.specs.List.{AllByRecursion}
use Rattle.content.specs.declared.content.Content.{Ghosts}
use Rattle.content.specs.Lawful.{Lawful}
use Rattle.law.specs.Plain.{Plain, put}
use Rattle.law.specs.Faces as law
use Rattle.law.specs.Faces.{Law}
use Rattle.law.specs.Changes as changes
use Rattle.law.proofs.Laws.{laws}
use Rattle.table.specs.Cells.{Face, Cell, cell}
use Rattle.table.specs.Cuts.{left_piece, right_piece}
use Rattle.block_store.specs.Lists.{Good}
use Rattle.block_store.specs.Cuts.{CutBlock, pieces}
use Rattle.block_store.proofs.Shapes.{all_at}
use Rattle.view.specs.View.{shows, shown}
use Rattle.view.proofs.Views.{shown-append}

take_all : {X : Type 0} (xs ys : List X) → take (length xs) (xs ++ ys) ≡ xs
take_all [] ys = refl
take_all (x ∷ xs) ys = ap (λ us. x ∷ us) (take_all xs ys)

taken : {X : Type 0} (k : ℕ) (xs ys zs : List X) → length xs ≡ k → xs ++ ys ≡ zs → (xs ≡ take k zs) × (ys ≡ drop k zs)
taken k xs ys zs e j = (
  sym (ap₂ (λ n us. take n us) (sym e) (sym j) ∙ take_all xs ys),
  sym (ap₂ (λ n us. drop n us) (sym e) (sym j) ∙ front_rest (xs ++ ys) xs ys refl),
)

module _ {C : Type 0} (K : Ghosts C) (kind : Lawful K) (ws : List ℕ) where
  -- The faces of both pieces are the pieces of the face.
  shows-pieces : (k : ℕ) (f : Face C) → 0 < k → k < K.size f.content → K.reach f.content ≤ length ws
      → (shows K ws (left_piece K k f) ≡ changes.left_piece k (shows K ws f)) × (shows K ws (right_piece K k f) ≡ changes.right_piece k (shows K ws f))
  shows-pieces k f low high fits =
      let h = kind.halves k f.content low high in
      let left = h.left_reach in
      let long : length (K.units ws (K.fore k f.content)) ≡ k = kind.sized ws (K.fore k f.content) (omega arith) ∙ h.front in
      let both = taken k (K.units ws (K.fore k f.content)) (K.units ws (K.rear k f.content)) (K.units ws f.content) long (h.joins ws fits) in (
        ap₂ (λ (b : Bool) (us : List ℕ). record { first = record { client = f.id.client; clock = f.id.clock }; removed = f.removed; links = f.links; countable = b; units = us }) h.left_counts both.0,
        ap₂ (λ (b : Bool) (us : List ℕ). record { first = record { client = f.id.client; clock = f.id.clock + k }; removed = f.removed; links = f.links; countable = b; units = us }) h.right_counts both.1,
      )

  pub cut_law : (F : ℕ → List law.Face) (p : Plain) (l j : ℕ) (cs : List (Cell C)) (c : CutBlock K cs) → F l ≡ shown K ws cs → AllByRecursion (Good K (length ws)) cs
      → Law F p → Law (put l (shown K ws (pieces j c)) F) p
  cut_law F p l j cs c here good held =
      let fits : K.reach c.face.content ≤ length ws = (all_at (Good K (length ws)) c.pre (cell c.place c.face) c.post (subst (λ (xs : List (Cell C)). AllByRecursion (Good K (length ws)) xs) c.parts good)).fits in
      let e = shows-pieces c.offset c.face c.low c.high fits in
      let long : length (K.units ws c.face.content) ≡ K.size c.face.content = kind.sized ws c.face.content fits in
      let high = c.high in
      subst (λ fs. Law (put l fs F) p)
      (sym (shown-append K ws c.pre (cell c.place (left_piece K c.offset c.face) ∷ cell j (right_piece K c.offset c.face) ∷ c.post)
      ∙ ap₂ (λ (a b : law.Face). shown K ws c.pre ++ a ∷ b ∷ shown K ws c.post) e.0 e.1))
      (laws.cut_keeps F p l c.offset (shown K ws c.pre) (shows K ws c.face) (shown K ws c.post) held (record {
        parts = here ∙ ap (shown K ws) c.parts ∙ shown-append K ws c.pre (cell c.place c.face ∷ c.post);
        low = c.low;
        high = omega arith;
      }))
