use Rattle.h2_debug.proofs.places.place.Place.try_clone.Goals as goal

pub returns : goal.returns
returns g c = record { same = rw (c.in_ok-sent.ensures, c.in_ok-conn.ensures.same) c.self.view_is }
