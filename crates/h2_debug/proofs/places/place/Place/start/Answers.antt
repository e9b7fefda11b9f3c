use Rattle.std.proofs.Common.{refl}
use Rattle.h2_debug.proofs.PlaceLaws.{place-start}
use Rattle.h2_debug.proofs.places.place.Place.start.Goals as goal

pub returns-clause-place : goal.returns-clause-place
returns-clause-place g c = rw (← c.source.view_is, c.none.ensures) (place-start _ _ _ c.in_ok-conn.ensures.opened (rw c.new-sent.ensures.items at c.in_ok-conn.ensures.sent), refl, refl)
