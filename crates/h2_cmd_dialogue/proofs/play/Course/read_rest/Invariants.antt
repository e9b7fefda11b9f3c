use Rattle.std.proofs.Common.{List}
use Rattle.h2_cmd_dialogue.specs.Steps.{Step}
use Rattle.h2_cmd_dialogue.specs.Plays.{Goes}
use Rattle.h2_cmd_dialogue.proofs.play.Course.read_rest.Given as goal

abbrev pub invariant-loop-read : goal.invariant-loop-read
invariant-loop-read g l = (steps : List Step) → Goes steps l.fn.self (g.L.Link.log l.fn.link) l.self (g.L.Link.log l.link)
