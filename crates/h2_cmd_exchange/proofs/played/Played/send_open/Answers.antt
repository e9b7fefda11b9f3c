use Rattle.std.proofs.Common.{◌≡◌, List, Option, subst}
use Rattle.h2_cmd_exchange.specs.Links.{LinkEvent, Sent, happened}
use Rattle.h2_cmd_exchange.specs.Plays.{ListensFor, Played, with_piece}
use Rattle.h2_cmd_exchange.proofs.played.Played.send_open.Goals as goal

pub returns : goal.returns
returns g c = (
  c.write_all-done.result,
  c.listen.new.self,
  subst (λ (k : Option (List LinkEvent)). ListensFor c.args.asked (with_piece c.args.self.now) k c.listen.new.self (g.L.Link.log c.listen.new.link)) c.write_all-done.ensures
      (subst (λ (p : Played). ListensFor c.args.asked p (g.L.Link.log c.write_all-done.new.self) c.listen.new.self (g.L.Link.log c.listen.new.link)) c.count.ensures c.in_ok-listen.ensures),
  c.close_if.ensures,
)
