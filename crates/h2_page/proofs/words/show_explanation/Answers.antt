use Rattle.std.proofs.Common.{refl}
use Rattle.h2_page.specs.Words.{Explains}
use Rattle.h2_page.proofs.Given.{given}
use Rattle.h2_page.proofs.words.show_explanation.Goals as goal

pub returns-clause-shown : goal.returns-clause-shown
returns-clause-shown g c =
    given (Explains c.args.form c.args.config c.args.answers.now c.args.octets.now) _ _ _ _ refl c.explanation_with-text.ensures (rw c.as_slice.ensures.value at c.put_text.ensures.put)
