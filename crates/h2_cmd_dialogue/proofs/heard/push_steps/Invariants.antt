use Rattle.std.proofs.Common.{◌≡◌, ◌++◌, drop}
use Rattle.h2_cmd_dialogue.specs.Heard.{sent_after}
use Rattle.h2_cmd_dialogue.proofs.heard.push_steps.Given as goal

abbrev pub invariant-loop-step : goal.invariant-loop-step
invariant-loop-step l = l.events.items ++ sent_after l.base (drop l.step-index l.steps) l.frame.head l.frame.payload.now ≡ l.fn.events.items ++ sent_after l.base l.steps l.frame.head l.frame.payload.now
