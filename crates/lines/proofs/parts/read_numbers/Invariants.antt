use Rattle.std.proofs.Common.{◌≡◌, ◌-◌, ◌++◌, length, take}
use Rattle.std.specs.Option.{option_map}
use Rattle.lines.specs.Parts.{counted}
use Rattle.lines.proofs.parts.read_numbers.Given as goal

abbrev pub invariant-loop-number : goal.invariant-loop-number
invariant-loop-number g l = record {
  so_far : option_map (λ ns. take l.number-index l.number-items ++ ns) (counted (g.row.N - l.number-index) l.rest) ≡ counted g.row.N l.line;
  places : length l.number-items ≡ g.row.N;
}
