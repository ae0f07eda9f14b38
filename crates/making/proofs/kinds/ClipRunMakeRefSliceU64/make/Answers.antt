use Rattle.std.proofs.Common.{◌≡◌, ◌+◌, ◌≤◌, false, length, take, refl, ap, ◌∙◌, arith}
use Rattle.std.proofs.lemmas.List.{length-take-le}
use Rattle.content.specs.Runs.{run, word_at}
use Rattle.content.specs.RunsLemmas.{reach_here, reach_of_words}
use Rattle.making.proofs.Appending.{accepted, used_after, length_used_after, appended_keeps}
use Rattle.making.proofs.Units.{words_back}
use Rattle.making.proofs.kinds.ClipRunMakeRefSliceU64.make.Goals as goal

pub returns : goal.returns
returns c =
    let used = c.args.used in
    let ws = c.args.words.now in
    let us = c.args.recipe.now in
    let after = c.append.new.words in
    let n = length us in
    let is = c.in_ok-judge.ensures in
    let room = accepted n false n (length ws) used is in
    let le : used ≤ length ws = omega arith in
    let long : length (take (used + n) after) ≡ used + n = ap (λ t. length (take (used + n) t)) c.append.ensures ∙ length_used_after ws us used le in
    record {
      answer = is;
      kept = ap (take used) c.append.ensures ∙ appended_keeps ws us used le;
      leaves = record {
        words = c.append.ensures;
        used_is = refl;
        counted = refl;
        fits = rw reach_of_words (reach_here used (used + n) (used + n) (length (take (used + n) after)) (omega arith) (omega arith));
        listing =
            ap (λ t. run (word_at (take (used + n) t)) used (used + n)) c.append.ensures
            ∙ ap (λ t. run (word_at t) used (used + n)) (used_after ws us used le)
            ∙ words_back (take used ws) us used (length-take-le used ws le);
      };
    }
