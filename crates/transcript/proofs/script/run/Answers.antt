use Rattle.transcript.proofs.ScriptLaws.{line_more}
use Rattle.transcript.proofs.script.run.Goals as goal

pub loop-rest-preserved : goal.loop-rest-preserved
loop-rest-preserved c =
    line_more _ _ _ c.loop-rest.rest.now _ _ _ _ c.find_byte.ensures.value c.split_at.ensures.front c.split_at.ensures.back c.behind_first-rest.ensures c.in_ok-push_line.ensures c.loop-rest.invariant
