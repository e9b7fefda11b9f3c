-- A stream whose send window rises stays sound.
use Rattle.std.proofs.Common.{◌≡◌, ℕ, List, true, arith}
use Rattle.std.proofs.lemmas.Bool.{not-true}
use Rattle.h2_spec.specs.declared.streams.Stream.{Stream}
use Rattle.h2_spec.specs.Requests.Answer.{Entry}
use Rattle.h2_spec.specs.Stream.{octets_waiting}
use Rattle.h2_conn_rules.specs.Sound.{HasBody, InForce, IsSoundStream}
use Rattle.h2_streams.specs.Raised.{can_rise, raised}

pub raised-sound : (f : InForce) (n : ℕ) (st : Stream) → can_rise n st ≡ true → IsSoundStream f st → IsSoundStream f (raised n st)
raised-sound f n st rises sound =
    let within = not-true _ rises in
    let least = sound.2 in
    (sound.0, grind (arith, within), λ follows. let low = least follows in grind (arith, low))

pub raised-body : (book : List Entry) (n : ℕ) (st : Stream) → HasBody book st → HasBody book (raised n st)
unfolding octets_waiting
raised-body book n st has = has
