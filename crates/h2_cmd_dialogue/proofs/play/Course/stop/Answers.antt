use Rattle.h2_cmd_dialogue.proofs.PlayLaws.{goes-late, goes-none}
use Rattle.h2_cmd_dialogue.proofs.play.Course.stop.Goals as goal

pub returns-then-not-is_client : goal.returns-then-not-is_client
returns-then-not-is_client g c = λ steps. goes-none steps c.args.self.now (g.L.Link.log c.args.link.now)

pub returns-then-self-gt-MOST : goal.returns-then-self-gt-MOST
returns-then-self-gt-MOST g c = λ steps. goes-none steps c.args.self.now (g.L.Link.log c.args.link.now)

pub returns-then-is_late : goal.returns-then-is_late
returns-then-is_late g c = λ steps. goes-late steps c.args.self.now (g.L.Link.log c.args.link.now) (g.L.Link.log c.is_late.new.self) c.is_late.result c.is_late.ensures

pub returns : goal.returns
returns g c = λ steps. goes-late steps c.args.self.now (g.L.Link.log c.args.link.now) (g.L.Link.log c.is_late.new.self) c.is_late.result c.is_late.ensures
