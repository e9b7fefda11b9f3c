use Rattle.std.proofs.Common.{◌∙◌, ℕ, List, ap}
use Rattle.h2_cmd_exchange.specs.Links.{Sent, happened}
use Rattle.h2_cmd_dialogue.proofs.PlayLaws.{goes-none, goes-put}
use Rattle.h2_cmd_dialogue.proofs.play.Course.write.Goals as goal

pub returns-then-is_empty : goal.returns-then-is_empty
returns-then-is_empty g c = λ steps. goes-none steps c.args.self.now (g.L.Link.log c.args.link.now)

pub returns : goal.returns
returns g c = λ steps. goes-put steps c.args.self.now c.clear.new.self (g.L.Link.log c.args.link.now) (g.L.Link.log c.write_all-is_done.new.self) c.write_all-is_done.result c.clear.ensures
    (c.write_all-is_done.ensures ∙ ap (λ (o : List ℕ). happened (g.L.Link.log c.args.link.now) (Sent o c.write_all-is_done.result)) c.out-2.ensures)
