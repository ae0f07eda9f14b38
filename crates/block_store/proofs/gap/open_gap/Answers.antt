use Rattle.std.proofs.Common.{arith}
use Rattle.content.specs.Lawful.{Lawful}
use Rattle.block_store.proofs.Gaps as G
use Rattle.block_store.proofs.gap.open_gap.Given as given
use Rattle.block_store.proofs.gap.open_gap.Goals as goal

laws : (g : given.Over) → Lawful g.C.Content
laws g = record { sized = g.met.C.Content.sized; steady = g.met.C.Content.steady; halves = g.met.C.Content.halves }

pub split-requires : goal.split-requires
split-requires g c = G.ready c.requires.openable c.in-After.i c.in-After.o c.in-After.is c.if-gap-eq0.false

pub returns-then-gap-eq0 : goal.returns-then-gap-eq0
returns-then-gap-eq0 g c = record { tables = λ w. G.opened_edge w.openable c.in-After.i c.in-After.o c.in-After.is c.if-gap-eq0.true; shape = λ w n s. s }

pub returns : goal.returns
returns g c =
    record {
      tables = λ w. G.opened_inside w.openable c.in-After.i c.in-After.o c.in-After.is c.if-gap-eq0.false (laws g) _ (c.split.ensures (G.ready w.openable c.in-After.i c.in-After.o c.in-After.is c.if-gap-eq0.false));
      shape = λ w. G.opened_shape w.openable c.in-After.i c.in-After.o c.in-After.is c.if-gap-eq0.false (laws g) _ (c.split.ensures (G.ready w.openable c.in-After.i c.in-After.o c.in-After.is c.if-gap-eq0.false)) (omega arith);
    }

pub returns-in_default : goal.returns-in_default
returns-in_default g c = record { tables = λ w. G.opened_rest w.openable c.in_default.not-After; shape = λ w n s. s }
