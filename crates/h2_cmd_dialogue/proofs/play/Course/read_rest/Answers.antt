use Rattle.h2_cmd_dialogue.proofs.PlayLaws.{goes-none, goes-then}
use Rattle.h2_cmd_dialogue.proofs.play.Course.read_rest.Goals as goal

pub loop-read-init : goal.loop-read-init
loop-read-init g c = λ steps. goes-none steps c.args.self.now (g.L.Link.log c.args.link.now)

pub loop-read-preserved : goal.loop-read-preserved
loop-read-preserved g c = λ steps. goes-then steps c.args.self.now c.loop-read.self c.read.new.self (g.L.Link.log c.args.link.now) (g.L.Link.log c.loop-read.link) (g.L.Link.log c.read.new.link) (c.loop-read.invariant steps) (c.in_ok-read.ensures steps)

pub returns-then-not-branch : goal.returns-then-not-branch
returns-then-not-branch g c = λ steps. goes-then steps c.args.self.now c.loop-read.self c.read.new.self (g.L.Link.log c.args.link.now) (g.L.Link.log c.loop-read.link) (g.L.Link.log c.read.new.link) (c.loop-read.invariant steps) (c.in_ok-read.ensures steps)
