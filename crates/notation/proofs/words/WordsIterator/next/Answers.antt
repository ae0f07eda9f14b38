use Rattle.std.proofs.Common.{ap, length, arith}
use Rattle.std.proofs.lemmas.Bool.Decides.{nat_tests}
use Rattle.notation.proofs.WordLaws.{no_word, a_word}
use Rattle.notation.proofs.words.WordsIterator.next.Goals as goal

pub returns-then-is_empty-clause-steps : goal.returns-then-is_empty-clause-steps
returns-then-is_empty-clause-steps c =
    let none = no_word c.args.self.now.0.now (grind (arith, nat_tests, c.if-is_empty.ensures, ap length c.next_word.ensures.0)) in (none, none)

pub returns-clause-steps : goal.returns-clause-steps
returns-clause-steps c = a_word c.args.self.now.0.now _ _ c.next_word.ensures.0 c.next_word.ensures.1 (grind (arith, nat_tests, c.if-is_empty.ensures))

pub returns-clause-goes : goal.returns-clause-goes
returns-clause-goes c =
    let e = a_word c.args.self.now.0.now _ _ c.next_word.ensures.0 c.next_word.ensures.1 (grind (arith, nat_tests, c.if-is_empty.ensures)) in
    let l = ap length e in
    grind (arith, l)
