use Rattle.block_store.proofs.cut.locate.Goals as goal

pub returns-in-Some : goal.returns-in-Some
returns-in-Some g c = record { list = c.loop-front.front-index; known = c.loop-front-test.true; found = c.in-Some.ensures; before = c.loop-front.invariant }
