use Rattle.std.proofs.Common.{rules, ◌≡◌, [], Ok, Err, refl}
use Rattle.h2_spec.specs.Texts.Written.{written}
use Rattle.h2_page.specs.Web.{SaysScript}
use Rattle.h2_page.specs.declared.fault.WebFault.TheVariants.{NoMemory}
use Rattle.h2_page.proofs.Given.{given}
use Rattle.h2_page.proofs.script.put_script.Goals as goal

pub returns-in-Ok-clause-given : goal.returns-in-Ok-clause-given
returns-in-Ok-clause-given g c =
    let said : c.as_bytes.result.now ≡ written c.args.octets.now = search rules in
    given (SaysScript c.args.octets.now) c.as_bytes.result.now (Ok tt) _ _ refl said c.put_text.ensures.put

pub returns-in-Err-clause-given : goal.returns-in-Err-clause-given
returns-in-Err-clause-given g c =
    given (SaysScript c.args.octets.now) [] (Err NoMemory) _ _ refl refl c.put_text-in-Err.ensures.put
