use Rattle.std.proofs.Common.{ℕ, [], ◌∷◌}
use Rattle.table.specs.Cells.{face_of}
use Rattle.table.specs.Lookups.{Has}
use Rattle.table.proofs.Paths.{all_join}
use Rattle.table.proofs.Walks as W
use Rattle.table.proofs.lookup.find.Goals as goal

pub loop-i-init : goal.loop-i-init
loop-i-init g c =
    let same = c.into_iter-i-iterator.ensures.into_iter_gives in
    (rw same c.new-i-items.ensures.leads, W.passed_none (rw same c.new-i-items.ensures.all), tt)

pub returns-in-Some-offset_of : goal.returns-in-Some-offset_of
returns-in-Some-offset_of g c = record {
  pre = c.loop-i.invariant.1.pre;
  face = face_of c.in-Some.b.now;
  post = _;
  parts = W.passed_parts c.loop-i.invariant.1 c.in-Some.ensures.steps;
  has = c.in-Some-offset_of.ensures;
  first = c.loop-i.invariant.2;
}

pub loop-i-preserved : goal.loop-i-preserved
loop-i-preserved g c = (
  c.in-Some.ensures.goes.keeps,
  W.passed_more c.loop-i.invariant.1 c.in-Some.ensures.steps,
  all_join (λ x. (o : ℕ) → Has g.C.Content c.args.id x.face o → ⊥) c.loop-i.invariant.1.pre (_ ∷ []) c.loop-i.invariant.2 (c.in_default.ensures, tt),
)
