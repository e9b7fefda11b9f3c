use Rattle.std.proofs.Common.{false, length, true}
use Rattle.h2_cmd_dialogue.proofs.WeaveLaws.{Picks}
use Rattle.h2_cmd_dialogue.proofs.weave.put_frames_apart.Given as goal

abbrev pub invariant-loop-frame : goal.invariant-loop-frame
invariant-loop-frame l = record {
  out : Picks false l.reset (length l.sent) l._frame l.rest l.fn.out.items l.out.items l.sent;
  withheld : Picks true l.reset (length l.sent) l._frame l.rest l.fn.withheld.items l.withheld.items l.sent;
}
