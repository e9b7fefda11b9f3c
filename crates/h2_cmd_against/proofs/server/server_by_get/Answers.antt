use Rattle.std.proofs.Common.{false, Option, Some, refl, subst}
use Rattle.h2_cmd_exchange.specs.Plays.{Played}
use Rattle.h2_cmd_against.specs.Aims.{aimed_by}
use Rattle.h2_cmd_against.specs.Servers.{Asks}
use Rattle.h2_cmd_against.proofs.server.server_by_get.Goals as goal

pub returns-in_ok-server_of-in-Some : goal.returns-in_ok-server_of-in-Some
returns-in_ok-server_of-in-Some g c =
    let asked = subst (λ (p : Option Played). Asks (aimed_by c.args.aim) false (g.L.Link.log c.args.link.now) p (g.L.Link.log c.asked.new.link)) c.in-Some.is c.in_ok-played.ensures in
    (Some c.in-Some.played, asked, (c.in_ok-server_of-in-Some.field-0, refl, c.in_ok-server_of-in-Some.ensures))
