-- What is most frequent: frames that move numbers of a live stream, and requests that open one.
use Rattle.std.specs.Prelude.{ℕ, Bool, not, ◌&&◌, ◌==◌, nat_lt, int_lt, pos, if◌then◌else◌}
use Rattle.std.specs.Option.{is_some}
use Rattle.h2_spec.specs.declared.connection.ConnectionState.{ConnectionState}
use Rattle.h2_spec.specs.declared.reactions.BlockSummary.{BlockSummary}
use Rattle.h2_spec.specs.declared.reactions.ReceivedData.{ReceivedData}
use Rattle.h2_spec.specs.declared.reactions.StreamOutcome.{StreamOutcome}
use Rattle.h2_spec.specs.declared.streams.Stream.{Stream}
use Rattle.h2_spec.specs.Change.{outcome_without_frame}
use Rattle.h2_spec.specs.Data.{content_with, length_broken}
use Rattle.h2_spec.specs.Requests.Headers.{new_stream}
use Rattle.h2_spec.specs.Stream.{is_live, is_peer_open}
use Rattle.h2_spec.specs.Requests.StreamEnds.{answered, peer_ended}
use Rattle.h2_streams.specs.Raised.{can_rise}

-- WINDOW_UPDATE: the increment is not 0, and the window does not pass the largest one (RFC 9113, 6.9)
abbrev pub only_raises : ℕ → Stream → Bool
only_raises increment st = is_live st.kind && not (increment == 0) && can_rise increment st

-- DATA on a stream whose peer's side is open: both windows hold it, and it is what was declared (RFC 9113, 6.1 and 8.1.1)
abbrev pub only_takes : ConnectionState → ReceivedData → Stream → Bool
only_takes core d st =
    is_peer_open st.kind && not (int_lt core.recv (pos d.octets)) && not (nat_lt 0 d.octets && int_lt st.numbers.recv (pos d.octets)) &&
    not (is_some (length_broken st.numbers.declared (content_with st.numbers.content_received d.content) d.ends))

-- what becomes of the stream that a well-formed request opens
abbrev pub opened : ℕ → Bool → ConnectionState → ℕ → Bool → BlockSummary → StreamOutcome
opened body early core id ends f =
    if ends then peer_ended body (new_stream core id f)
    else if early then answered body (new_stream core id f)
    else outcome_without_frame (new_stream core id f)
