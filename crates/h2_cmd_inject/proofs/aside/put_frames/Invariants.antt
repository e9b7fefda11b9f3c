use Rattle.std.proofs.Common.{length}
use Rattle.h2_cmd_inject.specs.Asides.{IsFrameLine}
use Rattle.h2_cmd_inject.proofs.AsideLaws.{Frames}
use Rattle.h2_cmd_inject.proofs.aside.put_frames.Given as goal

abbrev pub invariant-loop-frame : goal.invariant-loop-frame
invariant-loop-frame l = Frames (IsFrameLine l.paint.0 l.word) (length l.octets) l._frame l.octets l.rest l.fn.out.items l.out.items
