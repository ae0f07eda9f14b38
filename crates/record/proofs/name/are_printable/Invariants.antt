use Rattle.std.proofs.Common.{◌≡◌, drop}
use Rattle.record.specs.Names.{all_printable}
use Rattle.record.proofs.name.are_printable.Given as goal

abbrev pub invariant-loop-b : goal.invariant-loop-b
invariant-loop-b l = all_printable (drop l.b-index l.bytes) ≡ all_printable l.bytes
