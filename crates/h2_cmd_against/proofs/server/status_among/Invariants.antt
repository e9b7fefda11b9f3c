use Rattle.std.proofs.Common.{◌≡◌, drop}
use Rattle.h2_cmd_against.specs.Servers.{status_among}
use Rattle.h2_cmd_against.proofs.server.status_among.Given as goal

abbrev pub invariant-loop-seen : goal.invariant-loop-seen
invariant-loop-seen l = status_among (drop l.seen-index l.events) ≡ status_among l.events
