-- Streams: their records and states (RFC 9113, 5.1).
use Rattle.std.specs.Prelude.{◌≡◌, ℕ, ◌<◌, ◌≤◌, ◌%◌, Bool, true, false, ◌&&◌, List, [], ◌∷◌, ◌++◌, find, count_by, nat_lt, ◌==◌, if◌then◌else◌, Option, Some, None, max, pos}
use Rattle.std.specs.Option.{option_map}
use Rattle.h2_spec.specs.declared.streams.StreamState.{StreamState}
use Rattle.h2_spec.specs.declared.streams.StreamState.TheVariants.{Idle, Skipped, BothOpen, HalfRemote, HalfLocal, Ended, PeerReset, WeReset}
use Rattle.h2_spec.specs.declared.streams.Numbers.{Numbers}
use Rattle.h2_spec.specs.declared.streams.Pick.{Pick}
use Rattle.h2_spec.specs.declared.streams.Pick.TheVariants.{NotFound}
use Rattle.h2_spec.specs.declared.streams.Stream.{Stream}

-- whether one side or both are open
abbrev pub is_live : StreamState → Bool
is_live Idle = false
is_live Skipped = false
is_live BothOpen = true
is_live HalfRemote = true
is_live HalfLocal = true
is_live Ended = false
is_live PeerReset = false
is_live WeReset = false

-- what is counted on a stream that is not live
abbrev pub no_numbers : Numbers
no_numbers = record { recv = pos 0; owed = 0; send = pos 0; content_received = 0; declared = None; body_remaining = None }

-- a stream that is not live: its identifier and its state alone
abbrev pub not_live : ℕ → StreamState → Stream
not_live id kind = record { id = id; kind = kind; numbers = no_numbers; pick = NotFound }

-- whether the record has this identifier
abbrev pub is_id : ℕ → Stream → Bool
is_id id st = st.id == id

-- the record of a stream, in a list of them in the order of their opening
abbrev pub record_of : List Stream → ℕ → Option Stream
record_of streams id = find (is_id id) streams

-- a stream up to the last one that has no record was passed over
abbrev pub recorded : ℕ → Option Stream → Stream
recorded id None = not_live id Skipped
recorded id (Some st) = st

-- the stream with this identifier, where the last one that was opened is this: its record, or none yet, or none ever
unfoldable pub stream_at : ℕ → List Stream → ℕ → Stream
stream_at last streams id =
    if id % 2 == 0 then not_live id Idle
    else if nat_lt last id then not_live id Idle
    else recorded id (record_of streams id)

-- the state of a stream
abbrev pub kind_of : ℕ → List Stream → ℕ → StreamState
kind_of last streams id = (stream_at last streams id).kind

-- how many streams are live
abbrev pub live_count : List Stream → ℕ
live_count streams = count_by (λ st. is_live st.kind) streams

-- a record in the place of the one with its identifier, or after all
abbrev pub put : Stream → List Stream → List Stream
put st [] = st ∷ []
put st (x ∷ xs) = if x.id == st.id then st ∷ xs else x ∷ put st xs

-- the octets of its answer that a stream still has to send
abbrev pub octets_left : Option ℕ → ℕ
octets_left None = 0
octets_left (Some n) = n

-- the octets that wait on a stream, if it is live
unfoldable pub octets_waiting : Stream → ℕ
octets_waiting st = if is_live st.kind then octets_left st.numbers.body_remaining else 0

-- ---- the records of a connection

-- the records in the order of their opening, and the last stream that was opened
pub record Records : Type 0 where
  pub streams : List Stream
  pub last : ℕ

-- no stream has been opened
abbrev pub no_records : Records
no_records = record { streams = []; last = 0 }

-- records in the order of their opening: odd identifiers that rise above the first number and are not above the
-- second (5.1.1)
abbrev pub AreRising : ℕ → ℕ → List Stream → Type 0
AreRising low last [] = Unit {0}
AreRising low last (st ∷ sts) = (low < st.id) × (st.id % 2 ≡ 1) × (st.id ≤ last) × AreRising st.id last sts

-- whether the peer may still send on the stream
abbrev pub is_peer_open : StreamState → Bool
is_peer_open Idle = false
is_peer_open Skipped = false
is_peer_open BothOpen = true
is_peer_open HalfRemote = false
is_peer_open HalfLocal = true
is_peer_open Ended = false
is_peer_open PeerReset = false
is_peer_open WeReset = false

-- whether the server may still send on the stream
abbrev pub is_server_open : StreamState → Bool
is_server_open Idle = false
is_server_open Skipped = false
is_server_open BothOpen = true
is_server_open HalfRemote = true
is_server_open HalfLocal = false
is_server_open Ended = false
is_server_open PeerReset = false
is_server_open WeReset = false

-- a stream as it opens at the end of its request's block, which may end the peer's side
abbrev pub requested : ℕ → Numbers → Pick → Bool → Stream
requested id numbers pick true = record { id = id; kind = HalfRemote; numbers = numbers; pick = pick }
requested id numbers pick false = record { id = id; kind = BothOpen; numbers = numbers; pick = pick }

-- with these counts
abbrev pub with_numbers : Numbers → Stream → Stream
with_numbers numbers st = record st { numbers = numbers }

-- a stream after the peer's last frame, by its state before
abbrev pub peer_closed_as : StreamState → Stream → Stream
peer_closed_as BothOpen st = record st { kind = HalfRemote }
peer_closed_as HalfLocal st = not_live st.id Ended
peer_closed_as Idle st = st
peer_closed_as Skipped st = st
peer_closed_as HalfRemote st = st
peer_closed_as Ended st = st
peer_closed_as PeerReset st = st
peer_closed_as WeReset st = st

-- the stream after the peer's last frame
abbrev pub peer_closed : Stream → Stream
peer_closed st = peer_closed_as st.kind st

-- the state after RST_STREAM, which the peer or the server sent (6.4)
abbrev pub reset_kind : Bool → StreamState
reset_kind true = PeerReset
reset_kind false = WeReset

-- a stream that the peer or the server has reset (6.4)
abbrev pub reset_as : Bool → Stream → Stream
reset_as by_peer st = not_live st.id (reset_kind by_peer)

-- a stream above all others opens
abbrev pub added : Stream → Records → Records
added st r = record { streams = r.streams ++ st ∷ []; last = st.id }

-- the record of one stream changes
abbrev pub changed : ℕ → (Stream → Stream) → Records → Records
changed id f r = record r { streams = put (f (stream_at r.last r.streams id)) r.streams }

-- a record is put, perhaps of a stream above all others
abbrev pub with_record : Stream → Records → Records
with_record st r = record { streams = put st r.streams; last = max r.last st.id }

-- a stream above this one that has octets to send
abbrev pub waits_above : ℕ → Stream → Bool
waits_above after st = nat_lt after st.id && nat_lt 0 (octets_waiting st)

-- a record's identifier
abbrev pub id_of : Stream → ℕ
id_of st = st.id

-- the first stream above this one that has octets to send
unfoldable pub next_waiting : ℕ → List Stream → Option ℕ
next_waiting after streams = option_map id_of (find (waits_above after) streams)
