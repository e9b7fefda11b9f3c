-- What decides about the stream that a request opens.
use Rattle.std.proofs.Common.{◌≡◌, ℕ, Bool, true, false, Option, Some, nat_lt, refl, sym, ap, ◌∙◌}
use Rattle.h2_spec.specs.declared.causes.Cause.{Cause}
use Rattle.h2_spec.specs.declared.connection.Config.{Config}
use Rattle.h2_spec.specs.declared.connection.ConnectionState.{ConnectionState}
use Rattle.h2_spec.specs.declared.reactions.BlockSummary.{BlockSummary}
use Rattle.h2_spec.specs.declared.streams.Stream.{Stream}
use Rattle.h2_spec.specs.Requests.Headers.{max_list, request_outcome, trailers_outcome}

-- of malformed fields only the size of their list is looked at, and nothing of the answer
pub malformed-turn : (config : Config) (live body body' : ℕ) (early early' : Bool) (core : ConnectionState) (id : ℕ) (ends : Bool) (f f' : BlockSummary) (cause : Cause) → f.size ≡ f'.size → f.malformed ≡ Some cause → f'.malformed ≡ Some cause →
    request_outcome config live body early core id ends f ≡ request_outcome config live body' early' core id ends f'
unfolding request_outcome
malformed-turn config live body body' early early' core id ends f f' cause size bad bad' = rw (size, bad, bad') refl

-- of a list that is too large only the size is looked at, and nothing of its fields or the answer
pub large-turn : (config : Config) (live body body' : ℕ) (early early' : Bool) (core : ConnectionState) (id : ℕ) (ends : Bool) (f f' : BlockSummary) → f.size ≡ f'.size → nat_lt max_list f.size ≡ true →
    request_outcome config live body early core id ends f ≡ request_outcome config live body' early' core id ends f'
unfolding request_outcome
large-turn config live body body' early early' core id ends f f' size large = rw (large, sym (ap (λ n. nat_lt max_list n) size) ∙ large) refl

-- so it is of trailers
pub trailers-turn : (size : ℕ) (bad bad' : Option Cause) (body : ℕ) (ends : Bool) (st : Stream) → (nat_lt max_list size ≡ false → bad ≡ bad') →
    trailers_outcome size bad body ends st ≡ trailers_outcome size bad' body ends st
unfolding trailers_outcome
trailers-turn size bad bad' body ends st same = by_size (nat_lt max_list size) refl
  where
    by_size : (large : Bool) → nat_lt max_list size ≡ large → trailers_outcome size bad body ends st ≡ trailers_outcome size bad' body ends st
    by_size true e = rw e refl
    by_size false e = ap (λ b. trailers_outcome size b body ends st) (same e)
