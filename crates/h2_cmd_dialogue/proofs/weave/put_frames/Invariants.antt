use Rattle.std.proofs.Common.{◌≡◌, ◌++◌, drop}
use Rattle.h2_cmd_dialogue.specs.Woven.{script_frames}
use Rattle.h2_cmd_dialogue.proofs.weave.put_frames.Given as goal

abbrev pub invariant-loop-frame : goal.invariant-loop-frame
invariant-loop-frame l = l.out.items ++ script_frames l.base (drop l.frame-index l.frames) ≡ l.fn.out.items ++ script_frames l.base l.frames
