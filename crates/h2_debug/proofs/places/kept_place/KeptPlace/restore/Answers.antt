use Rattle.std.proofs.Common.{◌≡◌, ◌∙◌, ap, sym}
use Rattle.h2_conn.specs.Checkpoint.{checkpoint_of}
use Rattle.h2_debug.specs.Places.{KeptPlace}
use Rattle.h2_debug.proofs.KeptLaws.{place-restored}
use Rattle.h2_debug.proofs.places.kept_place.KeptPlace.restore.Goals as goal

pub returns-clause-restored : goal.returns-clause-restored
returns-clause-restored g c = λ p kept goes follows.
    let marked : c.self.inside.checkpoint ≡ checkpoint_of p.connection.state = ap (λ (k : KeptPlace). k.checkpoint) (c.self.view_is ∙ kept) in
    let same : c.in_ok-conn.conn ≡ p.connection = c.in_ok-conn.ensures.restored p.connection.state marked follows ∙ sym goes in
    rw (c.of.ensures, c.in_ok-sent.ensures) (place-restored _ p _ (c.self.view_is ∙ kept) same)
