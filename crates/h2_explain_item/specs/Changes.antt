-- What is other between two moments of a connection: tables of all counts with their values before and after, and the
-- rows of them that differ.
use Rattle.std.specs.Prelude.{◌≡◌, ℕ, min, Bool, true, false, not, ◌&&◌, ◌||◌, ◌==◌, nat_eq, if◌then◌else◌, List, [], ◌∷◌, ◌++◌, Option, Some, None, option_map, ℤ, pos, negsuc}
use Rattle.std.specs.List.{filter}
use Rattle.std.specs.Option.{option_eq}
use Rattle.std.specs.Ordering.{int_eq}
use Rattle.h2_spec.specs.declared.connection.ConnectionState.{ConnectionState}
use Rattle.h2_spec.specs.declared.flow.Settings.{Settings}
use Rattle.h2_spec.specs.declared.streams.StreamState.{StreamState}
use Rattle.h2_spec.specs.declared.streams.StreamState.TheVariants.{Idle, Skipped, BothOpen, HalfRemote, HalfLocal, Ended, PeerReset, WeReset}
use Rattle.h2_spec.specs.declared.streams.Numbers.{Numbers}
use Rattle.h2_spec.specs.declared.streams.Pick.{Pick}
use Rattle.h2_spec.specs.declared.streams.Pick.TheVariants.{Listed, NotFound, Connect}
use Rattle.h2_spec.specs.declared.streams.Stream.{Stream}
use Rattle.h2_spec.specs.Stream.{is_live}
use Rattle.h2_explain_item.specs.declared.change.changes.ShownChange.{ShownChange}
use Rattle.h2_explain_item.specs.declared.change.changes.ShownChange.TheVariants.{Number, State, Acknowledged, Stops}
use Rattle.h2_explain_item.specs.declared.change.count.Count.TheVariants.{ReceiveWindow, UnreturnedOctets, SendWindow, LastStream, GoawayLastStream, GoawayCode, ClientHeaderTableSize, ClientEnablePush, ClientMaxConcurrentStreams, ClientInitialWindowSize, ClientMaxFrameSize, ClientMaxHeaderListSize, SizeUpdatePending, OwnHeaderTableSize, OwnInitialWindowSize, OwnMaxFrameSize, TableEntries, TableOctets, TableMaximum, ContentReceived}
use Rattle.h2_explain_item.specs.declared.item.Moment.{Moment}

-- a number as it is listed: at most 2^63 - 1, which is also listed for all above it
abbrev pub listed : ℕ → ℤ
listed n = pos (min n 9223372036854775807)

-- a number that may be absent: -1 where it is
abbrev pub listed_if_any : Option ℕ → ℤ
listed_if_any None = negsuc 0
listed_if_any (Some n) = pos n

-- a flag as a number
abbrev pub listed_flag : Bool → ℤ
listed_flag false = pos 0
listed_flag true = pos 1

-- whether two states of a stream are the same
abbrev pub is_same_kind : StreamState → StreamState → Bool
is_same_kind Idle Idle = true
is_same_kind Skipped Skipped = true
is_same_kind BothOpen BothOpen = true
is_same_kind HalfRemote HalfRemote = true
is_same_kind HalfLocal HalfLocal = true
is_same_kind Ended Ended = true
is_same_kind PeerReset PeerReset = true
is_same_kind WeReset WeReset = true
is_same_kind _ _ = false

-- whether the windows and the unreturned octets of a stream are the same
abbrev pub are_same_windows : Numbers → Numbers → Bool
are_same_windows a b = int_eq a.recv b.recv && a.owed == b.owed && int_eq a.send b.send

-- whether the counts of a stream are the same
abbrev pub are_same_numbers : Numbers → Numbers → Bool
are_same_numbers a b =
    are_same_windows a b && a.content_received == b.content_received
    && option_eq nat_eq a.declared b.declared && option_eq nat_eq a.body_remaining b.body_remaining

-- whether two answers are the same
abbrev pub is_same_pick : Pick → Pick → Bool
is_same_pick (Listed a) (Listed b) = a == b
is_same_pick NotFound NotFound = true
is_same_pick Connect Connect = true
is_same_pick _ _ = false

-- whether two records of a stream are the same
abbrev pub is_same_stream : Stream → Stream → Bool
is_same_stream a b = a.id == b.id && is_same_kind a.kind b.kind && are_same_numbers a.numbers b.numbers && is_same_pick a.pick b.pick

-- whether the server's settings were acknowledged between two moments
abbrev pub is_acknowledged : Bool → Bool → Bool
is_acknowledged false false = false
is_acknowledged false true = true
is_acknowledged true false = true
is_acknowledged true true = false

-- whether the value after is other than the value before; where a body is not sent to its end is always listed
abbrev pub is_other : ShownChange → Bool
is_other (Number stream what before after) = not (int_eq before after)
is_other (State stream before after) = not (is_same_kind before after)
is_other (Acknowledged before after) = is_acknowledged before after
is_other (Stops stream remaining own connection) = true

-- the last stream of a GOAWAY (6.8)
abbrev pub last_of : ℕ × ℕ → ℕ
last_of goaway = goaway.0

-- its error code
abbrev pub code_of : ℕ × ℕ → ℕ
code_of goaway = goaway.1

-- the windows of the connection, its last stream, and the client's latest GOAWAY
abbrev pub counts_table : ConnectionState → ConnectionState → List ShownChange
counts_table before after =
    Number 0 ReceiveWindow before.recv after.recv
    ∷ Number 0 UnreturnedOctets (pos before.owed) (pos after.owed)
    ∷ Number 0 SendWindow before.send after.send
    ∷ Number 0 LastStream (pos before.last) (pos after.last)
    ∷ Number 0 GoawayLastStream (listed_if_any (option_map last_of before.goaway)) (listed_if_any (option_map last_of after.goaway))
    ∷ Number 0 GoawayCode (listed_if_any (option_map code_of before.goaway)) (listed_if_any (option_map code_of after.goaway))
    ∷ []

-- the client's settings (6.5.2)
abbrev pub client_table : Settings → Settings → List ShownChange
client_table before after =
    Number 0 ClientHeaderTableSize (pos before.header_table) (pos after.header_table)
    ∷ Number 0 ClientEnablePush (pos before.push) (pos after.push)
    ∷ Number 0 ClientMaxConcurrentStreams (listed_if_any before.streams) (listed_if_any after.streams)
    ∷ Number 0 ClientInitialWindowSize (pos before.window) (pos after.window)
    ∷ Number 0 ClientMaxFrameSize (pos before.frame) (pos after.frame)
    ∷ Number 0 ClientMaxHeaderListSize (listed_if_any before.list) (listed_if_any after.list)
    ∷ Number 0 SizeUpdatePending (listed_flag before.size_update_pending) (listed_flag after.size_update_pending)
    ∷ []

-- the server's settings that are in force, and whether they were acknowledged (6.5.3)
abbrev pub own_table : ConnectionState → ConnectionState → List ShownChange
own_table before after =
    Acknowledged before.acked after.acked
    ∷ Number 0 OwnHeaderTableSize (pos before.own.table) (pos after.own.table)
    ∷ Number 0 OwnInitialWindowSize (pos before.own.window) (pos after.own.window)
    ∷ Number 0 OwnMaxFrameSize (pos before.own.frame) (pos after.own.frame)
    ∷ []

-- the header table (RFC 7541, 2.3.2 and 4)
abbrev pub header_table : Moment → Moment → List ShownChange
header_table before after =
    Number 0 TableEntries (listed before.entries) (listed after.entries)
    ∷ Number 0 TableOctets (listed before.table_size) (listed after.table_size)
    ∷ Number 0 TableMaximum (pos before.table_max) (pos after.table_max)
    ∷ []

-- all that is counted on a connection
abbrev pub connection_table : Moment → Moment → List ShownChange
connection_table before after =
    counts_table before.counts after.counts
    ++ client_table before.counts.peer after.counts.peer
    ++ own_table before.counts after.counts
    ++ header_table before after

-- what is other on a connection
abbrev pub connection_changes : Moment → Moment → List ShownChange
connection_changes before after = filter is_other (connection_table before after)

-- the counts of a stream
abbrev pub numbers_table : ℕ → Numbers → Numbers → List ShownChange
numbers_table id before after =
    Number id ReceiveWindow before.recv after.recv
    ∷ Number id UnreturnedOctets (pos before.owed) (pos after.owed)
    ∷ Number id SendWindow before.send after.send
    ∷ Number id ContentReceived (listed before.content_received) (listed after.content_received)
    ∷ []

-- the state of a stream
abbrev pub state_row : Stream → Stream → List ShownChange
state_row before after = State after.id before.kind after.kind ∷ []

-- the state of a stream, and its counts where it was live and is
abbrev pub stream_table : Stream → Stream → List ShownChange
stream_table before after =
    state_row before after
    ++ (if is_live before.kind && is_live after.kind then numbers_table after.id before.numbers after.numbers else [])

-- where the body of an answer stops: that many octets of it remain
abbrev pub stops_with : ℕ → ℤ → ℤ → Option ℕ → List ShownChange
stops_with id own connection None = []
stops_with id own connection (Some remaining) = Stops id remaining own connection ∷ []

-- where the answer on a live stream stops, if its body is not sent to its end; the connection's send window is given
abbrev pub stops : Stream → ℤ → List ShownChange
stops st connection = if is_live st.kind then stops_with st.id st.numbers.send connection st.numbers.body_remaining else []

-- what is other on a stream, and where its answer stops; nothing where the stream is as before, or is the connection
abbrev pub stream_changes : Stream → Stream → ℤ → List ShownChange
stream_changes before after connection =
    if is_same_stream before after || after.id == 0 then [] else filter is_other (stream_table before after) ++ stops after connection

-- the value after a change is other than the value before it
abbrev pub Differs : ShownChange → Type 0
Differs (Number stream what before after) = ¬ before ≡ after
Differs (State stream before after) = ¬ before ≡ after
Differs (Acknowledged before after) = ¬ before ≡ after
Differs (Stops stream remaining own connection) = Unit {0}

-- the counts of a stream are as before, as they are listed
pub record CountsAreAsBefore (before after : Numbers) : Type 0 where
  pub recv : before.recv ≡ after.recv
  pub owed : before.owed ≡ after.owed
  pub send : before.send ≡ after.send
  pub content : listed before.content_received ≡ listed after.content_received

-- the state of a stream is as before, and its counts are where it was live and is
pub record IsAsBefore (before after : Stream) : Type 0 where
  pub kind : is_same_kind before.kind after.kind ≡ true
  pub counts : is_live before.kind ≡ true → is_live after.kind ≡ true → CountsAreAsBefore before.numbers after.numbers
