use Rattle.std.proofs.Common.{refl}
use Rattle.h2_page.specs.Web.{ShowsRun}
use Rattle.h2_page.proofs.Given.{given}
use Rattle.h2_page.proofs.run.show_run.Goals as goal

pub returns-clause-shown : goal.returns-clause-shown
returns-clause-shown g c =
    given (ShowsRun c.args.asked c.args.answers.now c.args.octets.now) _ _ _ _ refl c.run_with-text.ensures (rw c.as_slice.ensures.value at c.put_text.ensures.put)
