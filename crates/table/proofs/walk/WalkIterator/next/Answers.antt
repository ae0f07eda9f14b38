use Rattle.std.proofs.Common.{◌≡◌, ◌∷◌, length, ap, subst, arith}
use Rattle.table.specs.Cells.{cell, face_of, cells}
use Rattle.table.specs.Walks.{Leads}
use Rattle.table.proofs.Walks as W
use Rattle.table.proofs.walk.WalkIterator.next.Goals as goal

pub returns-clause-steps : goal.returns-clause-steps
returns-clause-steps g c =
    subst (λ y. cells c.args.self.now.blocks.now c.args.self.now.next ≡ cell c.in_ok-i.i (face_of y) ∷ cells c.args.self.now.blocks.now y.right) c.index-self-i.is
    (W.leads_parts c.requires c.in_ok-i.was c.index-self-i.is)

pub returns-clause-goes : goal.returns-clause-goes
returns-clause-goes g c =
    let steps = ap length (returns-clause-steps g c) in
    let on = subst (λ y. Leads c.args.self.now.blocks.now y.right) c.index-self-i.is (W.leads_on c.requires c.in_ok-i.was c.index-self-i.is) in
    record { on = λ _. (on, tt, omega arith); keeps = on; rests = λ _. tt }
