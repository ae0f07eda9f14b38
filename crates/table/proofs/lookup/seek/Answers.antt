use Rattle.std.proofs.Common.{arith}
use Rattle.table.specs.Cells.{face_of}
use Rattle.table.proofs.Walks as W
use Rattle.table.proofs.lookup.seek.Goals as goal

pub loop-i-init : goal.loop-i-init
loop-i-init g c =
    let same = c.into_iter-i-iterator.ensures.into_iter_gives in
    (rw same c.new-i-items.ensures.leads, W.passed_none (rw same c.new-i-items.ensures.all), omega arith, omega arith)

pub returns-then-left-n : goal.returns-then-left-n
returns-then-left-n g c =
    let seen = W.shown_some g.C.Content (face_of c.in-Some.b.now) (omega (arith, c.loop-i.invariant.2, c.if-left-n.true, c.shown-n.ensures)) in
    record {
      pre = c.loop-i.invariant.1.pre;
      face = face_of c.in-Some.b.now;
      post = _;
      parts = W.passed_parts c.loop-i.invariant.1 c.in-Some.ensures.steps;
      stays = seen.0;
      counted = seen.1;
      some = c.loop-i.invariant.2;
      inside = omega (arith, seen.2, c.if-left-n.true, c.shown-n.ensures);
      sum = c.loop-i.invariant.3;
    }

pub loop-i-preserved : goal.loop-i-preserved
loop-i-preserved g c = (
  c.in-Some.ensures.goes.keeps,
  W.passed_more c.loop-i.invariant.1 c.in-Some.ensures.steps,
  omega (arith, c.if-left-n.false),
  omega (arith, W.visible_more g.C.Content c.loop-i.invariant.1.pre c.in-Some.i (face_of c.in-Some.b.now), c.shown-n.ensures, c.if-left-n.false, c.loop-i.invariant.3),
)
