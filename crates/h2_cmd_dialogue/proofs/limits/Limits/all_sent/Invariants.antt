use Rattle.std.proofs.Common.{◌≡◌, ◌-◌, length}
use Rattle.h2_cmd_dialogue.specs.Limits.{sent_frames}
use Rattle.h2_cmd_dialogue.proofs.limits.Limits.all_sent.Given as goal

abbrev pub invariant-loop-frame : goal.invariant-loop-frame
invariant-loop-frame l = sent_frames (length l.octets - l._frame) l.self l.rest ≡ sent_frames (length l.octets) l.fn.self l.octets
