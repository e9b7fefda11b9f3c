use Rattle.std.proofs.Common.{◌≡◌, false, drop}
use Rattle.h2_cmd_against.specs.Aims.{is_open}
use Rattle.h2_cmd_against.proofs.aim.is_open.Given as goal

abbrev pub invariant-loop-octet : goal.invariant-loop-octet
invariant-loop-octet l = is_open l.inside (drop l.octet-index l.text) ≡ is_open false l.text
