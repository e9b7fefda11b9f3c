-- How the sides of a stream end, and how its answer begins (RFC 9113, 5.1 and 8.1).
use Rattle.std.specs.Prelude.{ℕ, Bool, true, false, ◌==◌, if◌then◌else◌, Some, None, is_some}
use Rattle.h2_spec.specs.declared.reactions.StreamFrame.TheVariants.{NoStreamFrame}
use Rattle.h2_spec.specs.declared.reactions.StreamOutcome.{StreamOutcome}
use Rattle.h2_spec.specs.declared.streams.StreamState.{StreamState}
use Rattle.h2_spec.specs.declared.streams.StreamState.TheVariants.{Idle, Skipped, BothOpen, HalfRemote, HalfLocal, Ended, PeerReset, WeReset}
use Rattle.h2_spec.specs.declared.streams.Stream.{Stream}
use Rattle.h2_spec.specs.Stream.{not_live}
use Rattle.h2_spec.specs.Change.{outcome_without_frame}

-- with this many octets of the answer left
abbrev pub with_body_remaining : Stream → ℕ → Stream
with_body_remaining st n = record st { numbers = record st.numbers { body_remaining = Some n } }

-- in this state
abbrev pub with_kind : Stream → StreamState → Stream
with_kind st kind = record st { kind = kind }

-- a stream whose server side has ended, by its state before
abbrev pub server_ended_as : StreamState → Stream → Stream
server_ended_as BothOpen st = record st { kind = HalfLocal; numbers = record st.numbers { body_remaining = None } }
server_ended_as HalfRemote st = not_live st.id Ended
server_ended_as Idle st = st
server_ended_as Skipped st = st
server_ended_as HalfLocal st = st
server_ended_as Ended st = st
server_ended_as PeerReset st = st
server_ended_as WeReset st = st

-- the stream after the server's last frame
unfoldable pub server_ended : Stream → Stream
server_ended st = server_ended_as st.kind st

-- the stream as its answer begins, with the length of the answer's body
unfoldable pub begun : ℕ → Stream → Stream
unfolding server_ended
begun body st = if body == 0 then server_ended st else with_body_remaining st body

-- the answer begins: HEADERS is sent, and the body waits
unfoldable pub answered : ℕ → Stream → StreamOutcome
unfolding begun
answered body st = record { stream = begun body st; frame = NoStreamFrame; answer = Some st.pick }

-- unless it has begun
abbrev pub answered_unless : Bool → ℕ → Stream → StreamOutcome
answered_unless true body st = outcome_without_frame st
answered_unless false body st = answered body st

-- a stream whose peer's side ends, by its state before
abbrev pub peer_ended_as : StreamState → ℕ → Stream → StreamOutcome
peer_ended_as BothOpen body st = answered_unless (is_some st.numbers.body_remaining) body (with_kind st HalfRemote)
peer_ended_as HalfLocal body st = outcome_without_frame (not_live st.id Ended)
peer_ended_as HalfRemote body st = outcome_without_frame st
peer_ended_as Idle body st = outcome_without_frame st
peer_ended_as Skipped body st = outcome_without_frame st
peer_ended_as Ended body st = outcome_without_frame st
peer_ended_as PeerReset body st = outcome_without_frame st
peer_ended_as WeReset body st = outcome_without_frame st

-- the peer's side ends: what was open is answered, with this length of the answer's body
unfoldable pub peer_ended : ℕ → Stream → StreamOutcome
unfolding answered
peer_ended body st = peer_ended_as st.kind body st
