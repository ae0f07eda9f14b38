-- What a making is tested for, and words appended to the used ones.
use Rattle.std.proofs.Common.{◌≡◌, ℕ, ◌+◌, ◌-◌, ◌<◌, ◌≤◌, Bool, false, List, ◌++◌, length, take, drop, None, sym, ap, ap₂, ◌∙◌, arith}
use borrow.Rule.Slice.PartMut.{put_mid}
use Rattle.std.proofs.lemmas.List.{drop-drop, length-take-le, take_at, append_assoc, length-append}
use Rattle.std.proofs.lemmas.Bool.Decides.{nat_tests}
use Rattle.making.specs.Verdicts.{free, verdict}
use Rattle.making.specs.Recipes.{appended}

-- What an accepted making was tested for.
pub accepted : (n : ℕ) (faulty : Bool) (m len used : ℕ) → None ≡ verdict n faulty m len used → (0 < n) × (n ≤ 65536) × (faulty ≡ false) × (m ≤ free len used)
accepted n faulty m len used is = grind (arith, nat_tests)

-- A table whose places from the used ones on were written with more.
pub written : (ws more new : List ℕ) (used n : ℕ) → new ≡ more → n ≡ length more → put_mid used (used + n - used) ws new ≡ appended ws used more
written ws more new used n is count =
    let k : used + n - used ≡ length more = omega arith in
    ap₂ (λ ys k. put_mid used k ws ys) is k ∙ ap (λ zs. take used ws ++ (more ++ zs)) (drop-drop (length more) used ws)

module _ (ws more : List ℕ) (used : ℕ) (le : used ≤ length ws) where
  long : length (take used ws ++ more) ≡ used + length more
  long = length-append (take used ws) more ∙ ap (λ n. n + length more) (length-take-le used ws le)

  -- The used words afterwards.
  pub used_after : take (used + length more) (appended ws used more) ≡ take used ws ++ more
  used_after =
      let rest = drop (used + length more) ws in
      ap (take (used + length more)) (sym (append_assoc (take used ws) more rest)) ∙ take_at (take used ws ++ more) rest (used + length more) long

  pub length_used_after : length (take (used + length more) (appended ws used more)) ≡ used + length more
  length_used_after = ap length used_after ∙ long

  pub appended_keeps : take used (appended ws used more) ≡ take used ws
  appended_keeps = take_at (take used ws) (more ++ drop (used + length more) ws) used (length-take-le used ws le)
