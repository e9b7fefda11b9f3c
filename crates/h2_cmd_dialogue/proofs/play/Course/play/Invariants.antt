use Rattle.h2_cmd_dialogue.specs.Plays.{Goes}
use Rattle.h2_cmd_dialogue.proofs.play.Course.play.Given as goal

abbrev pub invariant-loop-turn : goal.invariant-loop-turn
invariant-loop-turn g l = Goes l.steps l.fn.self (g.L.Link.log l.fn.link) l.self (g.L.Link.log l.link)
