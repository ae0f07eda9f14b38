use Rattle.std.proofs.Common.{◌++◌, vec_items, ap, ◌∙◌}
use Rattle.std.proofs.lemmas.Result.{IfOk-weaker}
use Rattle.transcript.proofs.AnswerLaws.{record_text}
use Rattle.transcript.proofs.answer.push_record.Goals as goal

pub returns-in-Ok : goal.returns-in-Ok
returns-in-Ok c =
    let done = c.in-Ok.ensures.bytes in
    IfOk-weaker c.push_bytes.result _ _ (λ x e. e ∙ ap (λ q. vec_items c.args.text.now ++ q) (record_text _ _ c.in-Ok.n _ _ done.0 done.1 done.2)) c.push_bytes.ensures
