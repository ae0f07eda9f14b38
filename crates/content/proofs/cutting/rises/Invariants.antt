use Rattle.std.proofs.Common.{◌≡◌, drop}
use Rattle.content.specs.Pieces.{rising}
use Rattle.content.proofs.cutting.rises.Given as goal

abbrev pub invariant-loop-k : goal.invariant-loop-k
invariant-loop-k l = rising l.low (drop l.k-index l.offsets) l.len ≡ rising 0 l.offsets l.len
