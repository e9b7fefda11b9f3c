use Rattle.std.proofs.Common.{◌≡◌, ◌-◌, length}
use Rattle.h2_cmd_judge.specs.ServerFrames.{read_on, read_upto}
use Rattle.h2_cmd_judge.proofs.frames.ServerFrames.read_on.Given as goal

abbrev pub invariant-loop-frame : goal.invariant-loop-frame
invariant-loop-frame l =
    read_on l.fn.after l.fn.self l.fn.events.items l.fn.octets
    ≡ read_upto (length l.fn.octets - l._frame) l.fn.after (record { frames = l.self; rest = l.rest; events = l.events.items })
