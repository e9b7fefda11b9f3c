use Rattle.std.proofs.Common.{◌≡◌, ℕ, drop, List, Option}
use Rattle.h2_cmd_exchange.specs.Links.{LinkEvent}
use Rattle.h2_cmd_exchange.specs.Plays.{Played, SendsAll}
use Rattle.h2_cmd_exchange.proofs.played.Played.send_all.Given as goal

abbrev pub invariant-loop-end : goal.invariant-loop-end
invariant-loop-end g l =
    (q : Played) (log' : Option (List LinkEvent))
    → SendsAll l.octets l.start (drop l.end-index l.ends) l.self (g.L.Link.log l.link) q log'
    → SendsAll l.octets 0 l.ends l.fn.self (g.L.Link.log l.fn.link) q log'
