-- Makings one after another, from the laws alone.
use Rattle.std.proofs.Common.{◌≡◌, ℕ, ◌+◌, ◌<◌, ◌≤◌, true, false, List, [], ◌∷◌, ◌++◌, map, length, get_or, take, drop, set, is_some, Some, None, Option, sym, ap, ◌∙◌, subst, ap₂, arith}
use Rattle.std.specs.List.{AllZip}
use Rattle.std.proofs.lemmas.Slice.Zip.{all_zipped_more}
use Rattle.std.proofs.lemmas.List.{append_assoc, length-append, take-append-drop, take-take, take_more, take_more_set, drop_more, map_push}
use Rattle.content.specs.declared.content.Content.{Ghosts}
use Rattle.content.specs.Lawful.{Lawful}
use Rattle.making.specs.Recipes.{Recipe, judged}
use Rattle.stranger.specs.Sequences.{table, next, unless_refused, last, accepted, Kept}

each_map : {X Y : Type 0} (P Q : X → Y → Type 0) → ((x : X) (y : Y) → P x y → Q x y) → (xs : List X) (ys : List Y) → AllZip P xs ys → AllZip Q xs ys
each_map P Q f [] [] e = e
each_map P Q f [] (y ∷ ys) e = e
each_map P Q f (x ∷ xs) [] e = e
each_map P Q f (x ∷ xs) (y ∷ ys) e = (f x y e.0, each_map P Q f xs ys e.1)

-- The first i recipes are done: what they left, and what is still to come.
pub record Onward {C R : Type 0} (K : Ghosts C) (asks : R → Recipe) (recipes : List R) (before : List ℕ) (used i n : ℕ) (ws : List ℕ) (made : List (Option C)) : Type 0 where
  pub exact : last asks (drop i recipes) (table ws n) ≡ last asks recipes (table before used)
  pub chosen : map is_some (take i made) ++ accepted asks (drop i recipes) (table ws n) ≡ accepted asks recipes (table before used)
  pub more : used ≤ n
  pub kept : take used ws ≡ take used before
  pub each : AllZip (Kept K asks (take n ws)) (take i recipes) (take i made)

module _ {C R : Type 0} (K : Ghosts C) (asks : R → Recipe) where
  -- Words that are appended leave what was made.
  kept_more : Lawful K → (t u : List ℕ) (r : R) (o : Option C) → Kept K asks t r o → Kept K asks (t ++ u) r o
  kept_more L t u r (Some c) h =
      let fit : K.reach c ≤ length t = h.fits in
      record { counted = h.counted; fits = rw length-append (omega arith); listing = L.steady t u c fit ∙ h.listing }
  kept_more L t u r None h = tt

  module _ (recipes : List R) (before : List ℕ) (used i n : ℕ) (ws : List ℕ) (made : List (Option C)) (w : Onward K asks recipes before used i n ws made) where
    pub one_more : Lawful K → (r : R) → r ≡ get_or recipes i r → i < length recipes → i < length made
        → (after : List ℕ) (m : ℕ) (o : Option C)
        → table after m ≡ next (asks r) (table ws n)
        → is_some o ≡ unless_refused (judged (asks r) ws n) true false
        → n ≤ m → take n after ≡ take n ws → Kept K asks (take m after) r o
        → Onward K asks recipes before used (i + 1) m after (set made i o)
    one_more L r is lt lt-made after m o exact chosen le kept here =
        let old = w.more in
        let low : used ≤ n = omega arith in
        let P = Kept K asks (take m after) in
        let rest : drop i recipes ≡ r ∷ drop (i + 1) recipes = drop_more recipes i r lt ∙ ap (λ x. x ∷ drop (i + 1) recipes) (sym is) in
        let cells : take (i + 1) (set made i o) ≡ take i made ++ o ∷ [] = take_more_set made i o lt-made in
        let front : take (i + 1) recipes ≡ take i recipes ++ r ∷ [] = take_more recipes i r lt ∙ ap (λ x. take i recipes ++ x ∷ []) (sym is) in
        let words : take m after ≡ take n ws ++ drop n (take m after) =
        sym (take-append-drop n (take m after)) ∙ ap (λ xs. xs ++ drop n (take m after)) (take-take n m after le ∙ kept) in
        let stays : (x : R) (y : Option C) → Kept K asks (take n ws) x y → P x y =
        λ x y h. subst (λ (t : List ℕ). Kept K asks t x y) (sym words) (kept_more L (take n ws) (drop n (take m after)) x y h) in
        let all = all_zipped_more P (take i recipes) (take i made) r o (each_map (Kept K asks (take n ws)) P stays (take i recipes) (take i made) w.each) here in
        record {
          exact = ap (last asks (drop (i + 1) recipes)) exact ∙ ap (λ rs. last asks rs (table ws n)) (sym rest) ∙ w.exact;
          chosen =
              ap (λ os. map is_some os ++ accepted asks (drop (i + 1) recipes) (table after m)) cells
              ∙ ap (λ bs. bs ++ accepted asks (drop (i + 1) recipes) (table after m)) (map_push is_some (take i made) o)
              ∙ append_assoc (map is_some (take i made)) (is_some o ∷ []) (accepted asks (drop (i + 1) recipes) (table after m))
              ∙ ap₂ (λ b t. map is_some (take i made) ++ b ∷ accepted asks (drop (i + 1) recipes) t) chosen exact
              ∙ ap (λ rs. map is_some (take i made) ++ accepted asks rs (table ws n)) (sym rest)
              ∙ w.chosen;
          more = omega arith;
          kept = sym (take-take used n after low) ∙ ap (take used) kept ∙ take-take used n ws low ∙ w.kept;
          each = subst (λ (ys : List (Option C)). AllZip P (take (i + 1) recipes) ys) (sym cells) (subst (λ (xs : List R). AllZip P xs (take i made ++ o ∷ [])) (sym front) all);
        }
