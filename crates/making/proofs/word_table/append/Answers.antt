use Rattle.std.proofs.Common.{length, refl}
use Rattle.making.proofs.Appending.{written}
use Rattle.making.proofs.word_table.append.Goals as goal

pub returns : goal.returns
returns c = written c.args.words.now c.args.more.now c.copy_from_slice.new.self c.args.used (length c.args.more.now) c.copy_from_slice.ensures.after refl
