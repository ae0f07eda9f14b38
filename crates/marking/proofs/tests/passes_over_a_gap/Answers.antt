use Rattle.std.proofs.Common.{[], ◌∷◌, refl, lit<}
use Rattle.marking.proofs.Samples.{strikable}
use Rattle.marking.proofs.tests.passes_over_a_gap.Goals as goal

pub strike-requires : goal.strike-requires
strike-requires g c = strikable _ c.block_of.ensures c.block_of-2.ensures c.block_of-3.ensures [] (_ ∷ _ ∷ _ ∷ []) [] _ 3 refl refl refl (lit< tt, (lit< tt, (lit< tt, tt)))
