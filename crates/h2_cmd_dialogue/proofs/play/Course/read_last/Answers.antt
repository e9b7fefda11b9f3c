use Rattle.h2_cmd_dialogue.proofs.PlayLaws.{goes-then}
use Rattle.h2_cmd_dialogue.proofs.play.Course.read_last.Goals as goal

pub returns : goal.returns
returns g c = goes-then c.args.steps.now c.args.self.now c.read_rest.new.self c.take_all.new.self (g.L.Link.log c.args.link.now) (g.L.Link.log c.read_rest.new.link) (g.L.Link.log c.read_rest.new.link)
    (c.in_ok-read_rest.ensures c.args.steps.now) (c.in_ok-take_all.ensures (g.L.Link.log c.read_rest.new.link))
