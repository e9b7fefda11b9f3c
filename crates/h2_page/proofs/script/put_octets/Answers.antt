use Rattle.std.proofs.Common.{refl}
use Rattle.h2_page.specs.Web.{AssemblesTo}
use Rattle.h2_page.proofs.Given.{given}
use Rattle.h2_page.proofs.script.put_octets.Goals as goal

pub returns-clause-given : goal.returns-clause-given
returns-clause-given g c =
    given (AssemblesTo c.args.text.now) _ _ _ _ refl c.assembled-octets.ensures (rw c.as_slice.ensures.value at c.put_text.ensures.put)
