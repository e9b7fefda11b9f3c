use Rattle.h2_cmd_dialogue.proofs.PlayLaws.{goes-then}
use Rattle.h2_cmd_dialogue.proofs.play.Course.take_or_read.Goals as goal

pub returns-then-branch-2 : goal.returns-then-branch-2
returns-then-branch-2 g c = goes-then c.args.steps.now c.args.self.now c.take_all.new.self c.read.new.self (g.L.Link.log c.args.link.now) (g.L.Link.log c.args.link.now) (g.L.Link.log c.read.new.link)
    (c.in_ok-take_all.ensures (g.L.Link.log c.args.link.now)) (c.in_ok-read.ensures c.args.steps.now)

pub returns : goal.returns
returns g c = goes-then c.args.steps.now c.args.self.now c.take_all.new.self c.read.new.self (g.L.Link.log c.args.link.now) (g.L.Link.log c.args.link.now) (g.L.Link.log c.read.new.link)
    (c.in_ok-take_all.ensures (g.L.Link.log c.args.link.now)) (c.in_ok-read.ensures c.args.steps.now)
