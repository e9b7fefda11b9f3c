use Rattle.std.proofs.Common.{◌≡◌, drop}
use Rattle.std.specs.List.{find}
use Rattle.h2_hpack_validity.specs.Octets.{is_outside_rest}
use Rattle.h2_hpack_validity.proofs.classes.first_outside_of_rest.Given as goal

abbrev pub invariant-loop-octet : goal.invariant-loop-octet
invariant-loop-octet l = find is_outside_rest l.octets ≡ find is_outside_rest (drop l.octet-index l.octets)
