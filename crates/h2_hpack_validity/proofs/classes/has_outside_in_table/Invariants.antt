use Rattle.std.proofs.Common.{◌≡◌, take}
use Rattle.std.specs.List.{list_any}
use Rattle.h2_spec.specs.Requests.Request.{is_outside_values}
use Rattle.h2_hpack_validity.proofs.classes.has_outside_in_table.Given as goal

abbrev pub invariant-loop-octet : goal.invariant-loop-octet
invariant-loop-octet l = l.found ≡ list_any is_outside_values (take l.octet-index l.octets)
