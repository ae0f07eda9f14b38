use Rattle.std.proofs.Common.{[], ◌∷◌, refl, lit<}
use Rattle.marking.proofs.Samples.{strikable}
use Rattle.marking.proofs.tests.stops_at_the_count.Goals as goal

pub strike-requires : goal.strike-requires
strike-requires g c = strikable _ c.block_of.ensures c.block_of-2.ensures c.block_of-3.ensures (_ ∷ []) (_ ∷ []) (_ ∷ []) _ 1 refl refl refl (lit< tt, (lit< tt, (lit< tt, tt)))
