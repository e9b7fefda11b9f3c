use Rattle.std.proofs.Common.{◌≡◌, take}
use Rattle.std.specs.List.{list_any}
use Rattle.h2_hpack_validity.specs.Octets.{is_low}
use Rattle.h2_hpack_validity.proofs.classes.has_low.Given as goal

abbrev pub invariant-loop-octet : goal.invariant-loop-octet
invariant-loop-octet l = l.found ≡ list_any is_low (take l.octet-index l.octets)
