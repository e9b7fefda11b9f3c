use Rattle.std.proofs.Common.{◌≡◌, ◌++◌, drop}
use Rattle.h2_cmd_dialogue.specs.Woven.{resets}
use Rattle.h2_cmd_dialogue.proofs.weave.put_resets.Given as goal

abbrev pub invariant-loop-frame : goal.invariant-loop-frame
invariant-loop-frame l = l.reset.items ++ resets l.base (drop l.frame-index l.frames) ≡ l.fn.reset.items ++ resets l.base l.frames
