use Rattle.std.proofs.Common.{arith}
use Rattle.std.proofs.lemmas.Bool.Decides.{nat_tests}
use Rattle.record.proofs.FlagLaws.{mask_flags}
use Rattle.record.proofs.flags.FlagsFromU8.from.Goals as goal

pub returns : goal.returns
returns c = let m = mask_flags c.args.byte in grind (arith, nat_tests)
