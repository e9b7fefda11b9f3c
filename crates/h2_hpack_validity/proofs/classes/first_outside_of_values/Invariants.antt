use Rattle.std.proofs.Common.{◌≡◌, drop}
use Rattle.std.specs.List.{find}
use Rattle.h2_spec.specs.Requests.Request.{is_outside_values}
use Rattle.h2_hpack_validity.proofs.classes.first_outside_of_values.Given as goal

abbrev pub invariant-loop-octet : goal.invariant-loop-octet
invariant-loop-octet l = find is_outside_values l.octets ≡ find is_outside_values (drop l.octet-index l.octets)
