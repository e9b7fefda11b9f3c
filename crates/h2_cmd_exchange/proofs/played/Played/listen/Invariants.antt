use Rattle.std.proofs.Common.{◌≡◌, ◌+◌, ◌-◌, ℕ, List, Option, length}
use Rattle.h2_cmd_exchange.specs.Links.{LinkEvent}
use Rattle.h2_cmd_exchange.specs.Plays.{ListensFor, Played, most}
use Rattle.h2_cmd_exchange.proofs.played.Played.listen.Given as goal

abbrev pub invariant-loop-alloc : goal.invariant-loop-alloc
invariant-loop-alloc g l =
    (q : Played) (end : Option (List LinkEvent))
    → ListensFor l.asked l.self (g.L.Link.log l.link) q end
    → ListensFor l.asked l.fn.self (g.L.Link.log l.fn.link) q end

abbrev pub decreases-loop-alloc : goal.decreases-loop-alloc
decreases-loop-alloc g l = most + 1 - length l.self.reading.octets
