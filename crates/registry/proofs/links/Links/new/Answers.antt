use Rattle.std.proofs.Common.{ap}
use Rattle.registry.specs.Links.{source_of}
use Rattle.registry.proofs.LinkLaws.{none_at}
use Rattle.registry.proofs.links.Links.new.Goals as goal

pub returns : goal.returns
returns c = λ n. ap source_of (none_at 64 n)
