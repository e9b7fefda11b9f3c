-- What a live stream waits for at the end of the input: what the client may still send, and what the server has to send.
use Rattle.std.specs.Prelude.{ℕ, ◌-◌, Bool, true, false, Option, Some, None}
use Rattle.std.specs.Option.{option_map}
use Rattle.h2_spec.specs.declared.connection.ConnectionState.{ConnectionState}
use Rattle.h2_spec.specs.declared.streams.StreamState.{StreamState}
use Rattle.h2_spec.specs.declared.streams.StreamState.TheVariants.{Idle, Skipped, BothOpen, HalfRemote, HalfLocal, Ended, PeerReset, WeReset}
use Rattle.h2_spec.specs.declared.streams.Numbers.{Numbers}
use Rattle.h2_spec.specs.declared.streams.Stream.{Stream}
use Rattle.h2_explain_text.specs.declared.waits.AnswerWait.{AnswerWait}
use Rattle.h2_explain_text.specs.declared.waits.RequestWait.{RequestWait}
use Rattle.h2_explain_text.specs.declared.waits.Wait.{Wait}

-- whether the client has still to end its side (5.1)
abbrev pub is_sending : StreamState → Bool
is_sending Idle = false
is_sending Skipped = false
is_sending BothOpen = true
is_sending HalfRemote = false
is_sending HalfLocal = true
is_sending Ended = false
is_sending PeerReset = false
is_sending WeReset = false

-- what the client may still send: the receive windows of the stream and of the connection, the octets that the stream is
-- owed (6.9), and how much of a declared content is missing (8.1.1)
abbrev pub request_wait : Bool → Numbers → ConnectionState → Option RequestWait
request_wait false n core = None
request_wait true n core = Some (record {
  window = n.recv;
  connection_window = core.recv;
  owed = n.owed;
  missing = option_map (λ declared. declared - n.content_received) n.declared;
})

-- the rest of an answer's body, with the send windows of the stream and of the connection (6.9)
abbrev pub answer_wait : Option ℕ → Numbers → ConnectionState → Option AnswerWait
answer_wait None n core = None
answer_wait (Some remaining) n core = Some (record { remaining = remaining; window = n.send; connection_window = core.send })

abbrev pub wait_of : Stream → ConnectionState → Wait
wait_of st core = record {
  stream = st.id;
  request = request_wait (is_sending st.kind) st.numbers core;
  answer = answer_wait st.numbers.body_remaining st.numbers core;
}
