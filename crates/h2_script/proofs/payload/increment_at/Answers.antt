use Rattle.std.proofs.Common.{sym, ap, option_map}
use Rattle.h2_spec.specs.Texts.Script.{Increment}
use Rattle.h2_script.proofs.payload.increment_at.Goals as goal

pub returns-in_ok-four_octets-in-Some : goal.returns-in_ok-four_octets-in-Some
returns-in_ok-four_octets-in-Some g c = (Increment c.in-Some.number, ap (option_map Increment) (sym c.in-Some.ensures.value), c.in_ok-four_octets-in-Some.ensures)
