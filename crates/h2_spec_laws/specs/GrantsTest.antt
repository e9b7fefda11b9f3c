-- The six tests of the law of grants, computed for one stream: for examples, and for runs that break them.
use Rattle.std.specs.Prelude.{ℕ, ◌+◌, Bool, true, false, ◌&&◌, ◌||◌, not, List, [], ◌∷◌, length, take, nat_le, bytes_eq, ◌==◌}
use Rattle.h2_spec.specs.Frames.FrameType.{DATA}
use Rattle.h2_spec.specs.Frames.Frame.{Frame}
use Rattle.h2_spec.specs.Requests.Answer.{Entry}
use Rattle.h2_spec.specs.State.{State}
use Rattle.h2_spec.specs.Trace.{Event}
use Rattle.h2_spec_laws.specs.Grants.{StreamTally, Tally, sent_one, sent_all, is_headers_on, is_data_on, sends_data, body_or_nothing, is_unfinished, has_ended, received_by}

-- the names of the tests
pub data Test : Type 0 where
  WithinConnection : Test
  WithinStream : Test
  WithinFrameSize : Test
  AnswersOnce : Test
  SilentAfterEnd : Test
  NothingHeldBack : Test

-- a test that is made where this holds
abbrev pub when : Bool → Bool → Bool
when true b = b
when false b = true

-- a test of each frame that is sent and the tally before it
abbrev pub at_each : (Tally → Frame → Bool) → ℕ → Tally → List Frame → Bool
at_each test id t [] = true
at_each test id t (f ∷ fs) = test t f && at_each test id (sent_one id t f) fs

-- within what is granted on the connection
abbrev pub is_within_connection : Tally → Bool
is_within_connection t = nat_le t.sent (65535 + t.granted)

-- within what is granted on the stream
abbrev pub is_within_stream : Tally → Bool
is_within_stream t = nat_le (length t.on_stream.content) (t.window + t.on_stream.granted)

-- DATA within the frame size
abbrev pub is_within_frame_size : Tally → Frame → Bool
is_within_frame_size t f = when (f.kind == DATA) (nat_le (length f.payload) t.frame)

-- HEADERS once, and DATA after it
abbrev pub is_in_order : ℕ → Tally → Frame → Bool
is_in_order id t f = when (is_headers_on id f) (t.on_stream.headers == 0) && when (is_data_on id f) (t.on_stream.headers == 1)

-- whether octets are what others begin with
abbrev pub is_prefix : List ℕ → List ℕ → Bool
is_prefix xs ys = bytes_eq (take (length xs) ys) xs

-- a prefix of the body that is promised, and all of it at the end
abbrev pub is_of_body : StreamTally → Bool
is_of_body m = is_prefix m.content (body_or_nothing m.promised) && when m.ended (bytes_eq m.content (body_or_nothing m.promised))

-- before END_STREAM, and before RST_STREAM
abbrev pub is_before_end : ℕ → Tally → Frame → Bool
is_before_end id t f = when (is_headers_on id f || is_data_on id f) (not t.on_stream.ended) && when (f.stream == id) (not t.on_stream.reset)

-- nothing more may be sent
abbrev pub is_used_up : Tally → Bool
is_used_up t = t.sent == 65535 + t.granted || nat_le (t.window + t.on_stream.granted) (length t.on_stream.content)

-- this test and the rest of those that fail
abbrev pub fails : Test → Bool → List Test → List Test
fails test true rest = rest
fails test false rest = test ∷ rest

-- the tests that fail after one item
abbrev pub failing : ℕ → Bool → Tally → List Frame → List Test
failing id ends t sent =
    let u = sent_all id t sent in
    fails WithinConnection (is_within_connection u)
    (fails WithinStream (when (sends_data id sent) (is_within_stream u))
    (fails WithinFrameSize (at_each is_within_frame_size id t sent)
    (fails AnswersOnce (at_each (is_in_order id) id t sent && is_of_body u.on_stream)
    (fails SilentAfterEnd (at_each (is_before_end id) id t sent)
    (fails NothingHeldBack (when (not ends && is_unfinished u.on_stream) (is_used_up u)) [])))))

-- the tests that fail after each item of a run
abbrev pub failing_in : List Entry → ℕ → State → Tally → List Event → List (List Test)
failing_in book id s t [] = []
failing_in book id s t (e ∷ es) =
    let u = received_by book id s t e in
    failing id (has_ended e.state.core.phase) u e.sent ∷ failing_in book id e.state (sent_all id u e.sent) es
