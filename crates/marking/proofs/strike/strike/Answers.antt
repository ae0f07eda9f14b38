use Rattle.std.proofs.Common.{◌<◌, length, get_or, ap, arith, rules}
use Rattle.marking.proofs.Strikes as S
use Rattle.marking.proofs.strike.strike.Goals as goal

pub loop-left-init : goal.loop-left-init
loop-left-init g c = λ w. S.strike_start w

pub bounds-blocks-i : goal.bounds-blocks-i
bounds-blocks-i g c = S.strike-within c.requires (c.loop-left.invariant c.requires) c.in-Some.is c.loop-left-test.true

pub offset_bounds-blocks-i : goal.offset_bounds-blocks-i
offset_bounds-blocks-i g c = let lt : c.in-Some.i < length c.args.blocks.now = omega (arith, bounds-blocks-i g c) in search rules

pub overflow_sub-left : goal.overflow_sub-left
overflow_sub-left g c = omega (arith, c.shown-n.ensures, S.strike_enough c.requires (c.loop-left.invariant c.requires) c.in-Some.is c.loop-left-test.true (ap (get_or c.loop-left.blocks c.in-Some.i) c.index-blocks-i.is))

pub loop-left-smaller-then-n-gt0 : goal.loop-left-smaller-then-n-gt0
loop-left-smaller-then-n-gt0 g c =
    S.strike_mark_falls c.requires (c.loop-left.invariant c.requires) c.in-Some.is c.loop-left-test.true (ap (get_or c.loop-left.blocks c.in-Some.i) c.index-blocks-i.is) (omega (arith, c.shown-n.ensures, c.if-n-gt0.true))

pub loop-left-preserved-then-n-gt0 : goal.loop-left-preserved-then-n-gt0
loop-left-preserved-then-n-gt0 g c = λ w.
    S.strike-mark w (c.loop-left.invariant w) c.in-Some.is c.loop-left-test.true (ap (get_or c.loop-left.blocks c.in-Some.i) c.index-blocks-i.is) (omega (arith, c.shown-n.ensures, c.if-n-gt0.true)) c.shown-n.result c.shown-n.ensures

pub loop-left-smaller : goal.loop-left-smaller
loop-left-smaller g c =
    S.strike_pass_falls c.requires (c.loop-left.invariant c.requires) c.in-Some.is c.loop-left-test.true (ap (get_or c.loop-left.blocks c.in-Some.i) c.index-blocks-i.is) (omega (arith, c.shown-n.ensures, c.if-n-gt0.false))

pub loop-left-preserved : goal.loop-left-preserved
loop-left-preserved g c = λ w.
    S.strike_pass w (c.loop-left.invariant w) c.in-Some.is c.loop-left-test.true (ap (get_or c.loop-left.blocks c.in-Some.i) c.index-blocks-i.is) (omega (arith, c.shown-n.ensures, c.if-n-gt0.false))

pub returns-after-loop-left : goal.returns-after-loop-left
returns-after-loop-left g c = λ w. S.strike-done w (c.loop-left.invariant w) (let none = c.loop-left-test.false in omega arith)

pub returns-in-loop-left : goal.returns-in-loop-left
returns-in-loop-left g c = λ w. S.strike_end w (c.loop-left.invariant w) (search rules)
