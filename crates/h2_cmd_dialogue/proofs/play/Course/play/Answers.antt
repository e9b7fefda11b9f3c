use Rattle.h2_cmd_dialogue.proofs.PlayLaws.{goes-none, goes-then}
use Rattle.h2_cmd_dialogue.proofs.play.Course.play.Goals as goal

pub loop-turn-init : goal.loop-turn-init
loop-turn-init g c = goes-none c.args.steps.now c.args.self.now (g.L.Link.log c.args.link.now)

pub loop-turn-preserved : goal.loop-turn-preserved
loop-turn-preserved g c = goes-then c.args.steps.now c.args.self.now c.loop-turn.self c.turn.new.self (g.L.Link.log c.args.link.now) (g.L.Link.log c.loop-turn.link) (g.L.Link.log c.turn.new.link) c.loop-turn.invariant c.in_ok-end.ensures

pub returns-in-Some : goal.returns-in-Some
returns-in-Some g c = goes-then c.args.steps.now c.args.self.now c.loop-turn.self c.turn.new.self (g.L.Link.log c.args.link.now) (g.L.Link.log c.loop-turn.link) (g.L.Link.log c.turn.new.link) c.loop-turn.invariant c.in_ok-end.ensures
