use Rattle.std.proofs.Common.{rules, ◌≡◌, ◌∙◌, ◌==◌, false, sym}
use Rattle.h2_debug.proofs.PlaceLaws.{head-seen}
use Rattle.h2_debug.proofs.places.cases.advance_seeing.Goals as goal

pub returns-clause-head : goal.returns-clause-head
returns-clause-head g c =
    let later : (c.position.result == 1) ≡ false = search rules in
    let seen = head-seen c.args.source.now c.args.place.now c.advance.new.self _ c.in_ok-advance.ensures.advances c.requires.more in
    rw (c.octets_from-octets.ensures.octets, c.used.ensures) at c.read_head.ensures ∙ sym (rw (← c.position.ensures, later) at seen)
