use Rattle.h2_debug.proofs.places.place.Place.copy_sent.Goals as goal

pub returns : goal.returns
returns g c = rw (← c.self.view_is) c.copy_of.ensures
