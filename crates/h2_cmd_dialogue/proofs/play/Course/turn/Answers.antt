use Rattle.h2_cmd_dialogue.proofs.PlayLaws.{goes-then}
use Rattle.h2_cmd_dialogue.proofs.play.Course.turn.Goals as goal

pub returns-then-not-write : goal.returns-then-not-write
returns-then-not-write g c = goes-then c.args.steps.now c.args.self.now c.write.new.self c.read_last.new.self (g.L.Link.log c.args.link.now) (g.L.Link.log c.write.new.link) (g.L.Link.log c.read_last.new.link)
    (c.write.ensures c.args.steps.now) c.in_ok-read_last.ensures

pub returns : goal.returns
returns g c = goes-then c.args.steps.now c.args.self.now c.write.new.self c.turn_on.new.self (g.L.Link.log c.args.link.now) (g.L.Link.log c.write.new.link) (g.L.Link.log c.turn_on.new.link)
    (c.write.ensures c.args.steps.now) c.in_ok-end.ensures
