use Rattle.std.proofs.Common.{◌≡◌, ◌++◌, drop}
use Rattle.h2_cmd_dialogue.specs.Heard.{with_sent}
use Rattle.h2_cmd_dialogue.proofs.heard.push_sends.Given as goal

abbrev pub invariant-loop-line : goal.invariant-loop-line
invariant-loop-line l = l.events.items ++ with_sent l.base (drop l.line-index l.lines) l.frame.head l.frame.payload.now ≡ l.fn.events.items ++ with_sent l.base l.lines l.frame.head l.frame.payload.now
