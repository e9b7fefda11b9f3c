use Rattle.h2_page.proofs.Runs.{not-allowed}
use Rattle.h2_page.proofs.Worded.{explanation-written}
use Rattle.h2_page.proofs.words.write_explanation.Goals as goal

pub returns-in-Ok : goal.returns-in-Ok
returns-in-Ok g c = λ held is.
    explanation-written c.args.form c.args.config c.args.book.now c.args.octets.now held c.in-Ok.conn _ c.write_words.result c.in-Ok.ensures.allowed c.in-Ok.ensures.opened (c.write_words.ensures held is)

pub returns-in-Err-BadConfig : goal.returns-in-Err-BadConfig
returns-in-Err-BadConfig g c = λ held is. not-allowed _ _ c.in-Err-BadConfig.field-0-is c.in-Err-BadConfig.ensures.fault
