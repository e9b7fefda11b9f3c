use Rattle.std.proofs.Common.{◌≡◌, take}
use Rattle.std.specs.List.{list_any}
use Rattle.h2_hpack_validity.specs.Octets.{is_outside_rest}
use Rattle.h2_hpack_validity.proofs.classes.has_outside_of_rest.Given as goal

abbrev pub invariant-loop-octet : goal.invariant-loop-octet
invariant-loop-octet l = l.found ≡ list_any is_outside_rest (take l.octet-index l.octets)
