use Rattle.std.proofs.Common.{◌+◌, ◌-◌, ◌/◌, ◌<◌, length, arith, rules}
use Rattle.content.specs.RunsLemmas.{told_run, place_word}
use Rattle.content.proofs.run.RunContent.unit.Goals as goal

pub returns : goal.returns
returns g c =
    let a = c.args.self.now.from in
    let b = c.args.self.now.to in
    let n = g.row.N in
    let t = c.args.words.now in
    let k = c.args.offset in
    let inside = c.if-offset-len.false in
    let lt : a + k < b = omega arith in
    let some : 0 < n = search rules in
    let at = place_word n (a + k) b some lt in
    let within : (a + k) / n < length t = omega arith in
    told_run _ a b ((b - 1) / n + 1) (length t) k _ (omega arith) lt (search rules)
