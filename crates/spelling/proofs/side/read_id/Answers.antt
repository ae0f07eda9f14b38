use Rattle.std.proofs.Common.{ap, ◌∙◌, arith}
use Rattle.std.specs.Option.{option_map}
use Rattle.source.specs.Meaning.{id_of}
use Rattle.spelling.proofs.SideLaws.{id_parts}
use Rattle.spelling.proofs.side.read_id.Goals as goal

pub returns-in_err-clock : goal.returns-in_err-clock
returns-in_err-clock c =
    ap (option_map id_of) c.from_residual-in_err-clock.ensures
    ∙ id_parts c.args.word.now _ _ c.find_byte.result _ _ c.find_byte.ensures.value c.split_at.ensures.front c.split_at.ensures.back (omega arith) c.in_ok-client.ensures c.in_err-clock.ensures

pub returns : goal.returns
returns c = id_parts c.args.word.now _ _ c.find_byte.result _ _ c.find_byte.ensures.value c.split_at.ensures.front c.split_at.ensures.back (omega arith) c.in_ok-client.ensures c.in_ok-clock.ensures
