use Rattle.std.proofs.Common.{◌∙◌, subst, sym}
use Rattle.h2_debug.specs.Places.{IsAt, Placed}
use Rattle.h2_debug.proofs.PlaceLaws.{place-more}
use Rattle.h2_debug.proofs.places.place.Place.has_next.Goals as goal

pub returns : goal.returns
returns g c =
    let here = subst (λ (p : Placed). IsAt c.args.source.now p) (sym c.self.view_is) c.requires in
    let is = rw (c.counts-core.ensures, c.octets_from.ensures.octets) at c.begins_item.ensures in
    rw (← c.self.view_is) (is ∙ place-more c.args.source.now _ here)
