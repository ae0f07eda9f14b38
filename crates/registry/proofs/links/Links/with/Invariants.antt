use Rattle.std.specs.Fn.{FnReturnsAt}
use Rattle.registry.specs.Links.{Tells}
use Rattle.registry.proofs.Gathering.{Gathered}
use Rattle.registry.proofs.links.Links.with.Given as goal

abbrev pub invariant-loop-n : goal.invariant-loop-n
invariant-loop-n g l =
    Gathered (Tells l.self (FnReturnsAt g.S.Fn l.starts)) l.before l.n l.first
    × Gathered (Tells l.self (FnReturnsAt g.E.Fn l.ends)) l.after l.n l.second
