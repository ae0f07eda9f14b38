use Rattle.law.proofs.Laws.{laws}
use Rattle.law.proofs.laws_stand.Goals as goal

pub returns : goal.returns
returns c = laws
