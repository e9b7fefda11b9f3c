use Rattle.std.proofs.Common.{◌≡◌, drop}
use Rattle.h2_cmd_dialogue.specs.Heard.{heard_from, nothing_heard}
use Rattle.h2_cmd_dialogue.proofs.heard.Heard.of.Given as goal

abbrev pub invariant-loop-event : goal.invariant-loop-event
invariant-loop-event l = heard_from l.goes_on l.heard (drop l.event-index l.events) ≡ heard_from l.goes_on nothing_heard l.events
