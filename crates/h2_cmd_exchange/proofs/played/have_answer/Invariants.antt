use Rattle.std.proofs.Common.{◌≡◌, drop}
use Rattle.h2_cmd_exchange.specs.Plays.{have_answer}
use Rattle.h2_cmd_exchange.proofs.played.have_answer.Given as goal

abbrev pub invariant-loop-seen : goal.invariant-loop-seen
invariant-loop-seen l = have_answer (drop l.seen-index l.events) ≡ have_answer l.events
