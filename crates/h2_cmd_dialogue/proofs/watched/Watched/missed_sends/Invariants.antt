use Rattle.std.proofs.Common.{◌≡◌, drop, None}
use Rattle.h2_cmd_dialogue.specs.Findings.{missed_sends}
use Rattle.h2_cmd_dialogue.proofs.watched.Watched.missed_sends.Given as goal

abbrev pub invariant-loop-line : goal.invariant-loop-line
invariant-loop-line l = missed_sends l.self l.number l.missed (drop l.line-index l.lines) ≡ missed_sends l.self l.number None l.lines
