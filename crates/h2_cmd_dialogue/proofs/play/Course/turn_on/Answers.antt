use Rattle.h2_cmd_dialogue.proofs.PlayLaws.{goes-then}
use Rattle.h2_cmd_dialogue.proofs.play.Course.turn_on.Goals as goal

pub returns : goal.returns
returns g c = goes-then c.args.steps.now c.args.self.now c.args.self.now c.take_or_read.new.self (g.L.Link.log c.args.link.now) (g.L.Link.log c.stop.new.link) (g.L.Link.log c.take_or_read.new.link)
    (c.stop.ensures c.args.steps.now) c.in_ok-end.ensures
