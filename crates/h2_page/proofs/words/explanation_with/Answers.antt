use Rattle.h2_page.proofs.Worded.{explained-with, explained-without}
use Rattle.h2_page.proofs.words.explanation_with.Goals as goal

pub returns-in-Ok : goal.returns-in-Ok
returns-in-Ok g c = explained-with c.args.form c.args.config c.args.answers.now c.args.octets.now c.in-Ok.book _ _ _ c.told.ensures c.in-Ok.ensures.ok c.text_of_explanation-text.ensures

pub returns-in-Err : goal.returns-in-Err
returns-in-Err g c = explained-without c.args.form c.args.config c.args.answers.now c.args.octets.now c.in-Err.refused.line c.in-Err.refused.fault _ _ c.refused_answer.ensures c.new.ensures.items c.in-Err.ensures.err
