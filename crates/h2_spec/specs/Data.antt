-- The rule for DATA (RFC 9113, 6.1 and 6.9).
use Rattle.std.specs.Prelude.{ℕ, ◌+◌, ◌^◌, ◌-◌, Bool, ◌&&◌, not, min, nat_lt, ◌==◌, if◌then◌else◌, Option, Some, None, pos, ◌+ℤ◌, ◌-ℤ◌, int_lt}
use Rattle.h2_spec.specs.declared.causes.Cause.{Cause}
use Rattle.h2_spec.specs.declared.causes.Cause.TheVariants.{ConnectionWindowExceeded, StreamWindowExceeded, ContentTooLong, ContentTooShort}
use Rattle.h2_spec.specs.declared.connection.Config.{Config}
use Rattle.h2_spec.specs.declared.connection.ConnectionState.{ConnectionState}
use Rattle.h2_spec.specs.declared.ignored.Ignored.{Ignored}
use Rattle.h2_spec.specs.declared.reactions.ReceivedData.{ReceivedData}
use Rattle.h2_spec.specs.declared.reactions.Change.{Change}
use Rattle.h2_spec.specs.declared.reactions.ConnectionFrame.TheVariants.{Credit}
use Rattle.h2_spec.specs.declared.reactions.Reaction.{Reaction}
use Rattle.h2_spec.specs.declared.reactions.Reaction.TheVariants.{ConnectionError, Continues}
use Rattle.h2_spec.specs.declared.reactions.StreamFrame.TheVariants.{StreamCredit}
use Rattle.h2_spec.specs.declared.reactions.StreamOutcome.{StreamOutcome}
use Rattle.h2_spec.specs.declared.streams.Stream.{Stream}
use Rattle.h2_spec.specs.Window.{given_back}
use Rattle.h2_spec.specs.Change.{only_counts, ignoring, with_outcome, outcome_without_frame, stream_error, unless_broken}
use Rattle.h2_spec.specs.Requests.StreamEnds.{peer_ended}

-- ---- on the connection

-- what is owed on the connection is given back, or stays owed
abbrev pub owed_as : Option ℕ → ConnectionState → ℕ → Change
owed_as (Some n) core owed = record (only_counts (record core { recv = core.recv +ℤ pos n; owed = 0 })) { connection_frame = Credit n }
owed_as None core owed = only_counts (record core { owed = owed })

-- octets are owed to the peer on the connection, and given back once they reach the threshold
unfoldable pub owed_on_connection : ℕ → ConnectionState → ℕ → Change
owed_on_connection threshold core n = owed_as (given_back threshold (core.owed + n)) core (core.owed + n)

-- octets of DATA are counted on the connection
unfoldable pub counted : ℕ → ConnectionState → ℕ → Change
unfolding owed_on_connection
counted threshold core n = owed_on_connection threshold (record core { recv = core.recv -ℤ pos n }) n

-- ---- on the stream

-- octets are given back on the stream
abbrev pub with_returned : Stream → ℕ → Stream
with_returned st n = record st { numbers = record st.numbers { recv = st.numbers.recv +ℤ pos n; owed = 0 } }

-- what is owed on the stream is given back, or stays owed
abbrev pub returned_as : Option ℕ → Stream → StreamOutcome
returned_as (Some n) st = record (outcome_without_frame (with_returned st n)) { frame = StreamCredit st.id n }
returned_as None st = outcome_without_frame st

-- what is owed on the stream is given back once it reaches the threshold
unfoldable pub returned : ℕ → Stream → StreamOutcome
returned threshold st = returned_as (given_back threshold st.numbers.owed) st

-- why the content does not fit what was declared (8.1.1)
abbrev pub length_broken : Option ℕ → ℕ → Bool → Option Cause
length_broken None content_received ends = None
length_broken (Some d) content_received ends = if nat_lt d content_received then Some ContentTooLong else if ends && not (content_received == d) then Some ContentTooShort else None

-- the content received, as far as 64 bits go; what is declared is far below that
abbrev pub content_with : ℕ → ℕ → ℕ
content_with content_received content = min (content_received + content) (2 ^ 64 - 1)

-- the stream has taken the octets
unfoldable pub taken : Stream → ReceivedData → Stream
taken st d = record st {
  numbers = record st.numbers {
    recv = st.numbers.recv -ℤ pos d.octets;
    owed = st.numbers.owed + d.octets;
    content_received = content_with st.numbers.content_received d.content;
  };
}

-- DATA on a stream whose peer's side is open: the threshold, and the length of the answer's body
unfoldable pub data_outcome : ℕ → ℕ → ReceivedData → Stream → StreamOutcome
unfolding peer_ended returned taken
data_outcome threshold body d st =
    if nat_lt 0 d.octets && int_lt st.numbers.recv (pos d.octets) then stream_error st.id StreamWindowExceeded
    else unless_broken (length_broken st.numbers.declared (content_with st.numbers.content_received d.content) d.ends) st.id
    (if d.ends then peer_ended body (taken st d)
    else returned threshold (taken st d))

-- ---- the rule

-- what follows on a stream, unless the connection's window is exceeded
abbrev pub if_within : ConnectionState → ℕ → Change → Reaction
if_within core n c = if int_lt core.recv (pos n) then ConnectionError ConnectionWindowExceeded else Continues c

-- DATA that the stream takes
unfoldable pub data_taken : Config → ConnectionState → ℕ → ReceivedData → Stream → Reaction
unfolding data_outcome counted with_outcome
data_taken config core body d st =
    if_within core d.octets (with_outcome (counted config.credit core d.octets) (data_outcome config.credit body d st))

-- DATA that is refused on its stream, and counted
unfoldable pub data_refused : Config → ConnectionState → ReceivedData → Stream → Cause → Reaction
unfolding counted with_outcome
data_refused config core d st cause =
    if_within core d.octets (with_outcome (counted config.credit core d.octets) (stream_error st.id cause))

-- DATA that is counted on the connection alone, and ignored for this reason
unfoldable pub data_counted : Config → ConnectionState → ReceivedData → Ignored → Reaction
unfolding counted
data_counted config core d reason = if_within core d.octets (ignoring reason (counted config.credit core d.octets))
