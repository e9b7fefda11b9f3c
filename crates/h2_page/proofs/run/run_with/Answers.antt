use Rattle.h2_page.proofs.Runs.{with-book, without-book}
use Rattle.h2_page.proofs.run.run_with.Goals as goal

pub returns-in-Ok : goal.returns-in-Ok
returns-in-Ok g c = with-book c.args.asked c.args.answers.now c.args.octets.now c.in-Ok.book _ _ _ c.told.ensures c.in-Ok.ensures.ok c.text_of_run-text.ensures

pub returns-in-Err : goal.returns-in-Err
returns-in-Err g c = without-book c.args.asked c.args.answers.now c.args.octets.now c.in-Err.refused.line c.in-Err.refused.fault _ _ c.refused_answer.ensures c.new.ensures.items c.in-Err.ensures.err
