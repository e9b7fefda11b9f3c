use Rattle.std.proofs.Common.{sym, ap, option_map}
use Rattle.h2_spec.specs.Texts.Script.{Code}
use Rattle.h2_script.proofs.payload.code_at.Goals as goal

pub returns-in_ok-four_octets-in-Some : goal.returns-in_ok-four_octets-in-Some
returns-in_ok-four_octets-in-Some g c = (Code c.in-Some.number, ap (option_map Code) (sym c.in-Some.ensures.value), c.in_ok-four_octets-in-Some.ensures)
