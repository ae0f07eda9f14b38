use Rattle.std.proofs.Common.{◌≡◌, ◌+◌, ◌-◌, ◌*◌, ◌/◌, ◌≤◌, length, take, refl, ap, ◌∙◌, ap₂, arith}
use borrow.Rule.Slice.PartMut.{put_mid}
use Rattle.std.proofs.lemmas.List.{length-take-le}
use Rattle.std.proofs.lemmas.Grind.{common_steps}
use Rattle.content.specs.Runs.{run, code_unit}
use Rattle.content.specs.RunsLemmas.{reach_here}
use Rattle.making.specs.Packed.{packed}
use Rattle.making.specs.Verdicts.{verdict}
use Rattle.making.proofs.Appending.{accepted, written, used_after, length_used_after, appended_keeps}
use Rattle.making.proofs.Units.{length-packed, text_back}
use Rattle.making.proofs.kinds.TextRunMakeRefSliceU16.make.Goals as goal

pub returns-in_err-judge : goal.returns-in_err-judge
returns-in_err-judge c = grind (arith, common_steps, length-packed)

pub returns : goal.returns
returns c =
    let used = c.args.used in
    let ws = c.args.words.now in
    let us = c.args.recipe.now in
    let n = length us in
    let m = c.div_ceil-m.result in
    let more = packed us in
    let is = c.in_ok-judge.ensures in
    let room = accepted n c.has_surrogate.result m (length ws) used is in
    let le : used ≤ length ws = omega arith in
    let size : m ≡ length more = omega (arith, length-packed us) in
    let table = written ws more c.pack.new.words used m c.pack.ensures size in
    let after = put_mid used (used + m - used) ws c.pack.new.words in
    let front : take (used + m) after ≡ take (used + length more) after = ap (λ k. take (used + k) after) size in
    let long : length (take (used + m) after) ≡ used + length more = ap length front ∙ ap (λ t. length (take (used + length more) t)) table ∙ length_used_after ws more used le in
    record {
      answer = is ∙ ap₂ (λ b k. verdict n b k (length ws) used) c.has_surrogate.ensures size;
      kept = ap (take used) table ∙ appended_keeps ws more used le;
      leaves = record {
        words = table;
        used_is = ap (λ k. used + k) size;
        counted = refl;
        fits = reach_here (4 * used) (4 * used + n) ((4 * used + n - 1) / 4 + 1) (length (take (used + m) after)) (omega arith) (omega arith);
        listing =
            ap (λ t. run (code_unit t) (4 * used) (4 * used + n)) (front ∙ ap (take (used + length more)) table ∙ used_after ws more used le)
            ∙ text_back us (λ i. let f = c.type_inv.recipe i in omega arith) (take used ws) used (length-take-le used ws le);
      };
    }
