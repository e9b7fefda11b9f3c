use Rattle.std.proofs.Common.{ℕ, Bool, length, ap, ◌∙◌}
use Rattle.h2_spec.specs.Requests.Answer.{Answer, picked}
use Rattle.h2_spec.specs.Requests.Headers.{request_outcome}
use Rattle.h2_conn.proofs.field_block.block_end.opening_outcome.Goals as goal

pub returns-clause-rule : goal.returns-clause-rule
returns-clause-rule g c =
    let a = c.args in
    let outcome = λ (body : ℕ) (early : Bool). request_outcome a.config a.live body early a.core a.id a.ends a.summary in
    c.request_outcome.ensures.rule
    ∙ ap (λ n. outcome n c.answer-early.result.early) c.body_length-body.ensures
    ∙ ap (λ (x : Answer). outcome (length (picked a.book.now a.summary.pick).body) x.early) c.answer-early.ensures

pub returns-clause-sound : goal.returns-clause-sound
returns-clause-sound g c = c.request_outcome.ensures.sound

pub returns-clause-waits : goal.returns-clause-waits
returns-clause-waits g c = c.request_outcome.ensures.waits c.args.book.now c.body_length-body.ensures c.requires.pick
