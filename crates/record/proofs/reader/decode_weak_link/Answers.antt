use Rattle.record.proofs.SoundLaws.{formed_of, every_of}
use Rattle.record.proofs.FirstLaws.{settled_first}
use Rattle.record.proofs.StayLaws.{decode-stays}
use Rattle.record.proofs.reader.decode_weak_link.Goals as goal

pub returns : goal.returns
returns c = record {
  exact = c.read_record.ensures;
  formed = formed_of c.args.bytes.now c.read_record.result c.read_record.ensures;
  every = every_of c.args.bytes.now c.read_record.result c.read_record.ensures;
  stays = decode-stays c.args.bytes.now;
  first = settled_first c.args.bytes.now;
}
