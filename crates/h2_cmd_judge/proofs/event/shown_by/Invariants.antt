use Rattle.std.proofs.Common.{◌≡◌, drop}
use Rattle.h2_cmd_judge.specs.Events.{nothing, shown_after}
use Rattle.h2_cmd_judge.proofs.event.shown_by.Given as goal

abbrev pub invariant-loop-seen : goal.invariant-loop-seen
invariant-loop-seen l = shown_after l.item l.shown (drop l.seen-index l.events) ≡ shown_after l.item nothing l.events
