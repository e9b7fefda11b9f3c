use Rattle.h2_cmd_dialogue.proofs.PlayLaws.{goes-read}
use Rattle.h2_cmd_dialogue.proofs.play.Course.read.Goals as goal

pub returns : goal.returns
returns g c = λ steps. goes-read steps c.args.self.now c.hear_read.new.self (g.L.Link.log c.args.link.now) (g.L.Link.log c.read-read.new.self) c.read-read.result c.read-read.new.buffer c.in_ok-came.ensures c.read-read.ensures.log
