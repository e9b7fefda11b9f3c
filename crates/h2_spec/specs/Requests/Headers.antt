-- Field blocks: HEADERS and CONTINUATION, and the end of a block (RFC 9113, 4.3, 6.2, 6.10 and 8.1).
use Rattle.std.specs.Prelude.{ℕ, ◌+◌, Bool, true, false, ◌&&◌, not, List, [], ◌++◌, length, nat_lt, nat_le, ◌==◌, if◌then◌else◌, Option, Some, None, pos}
use Rattle.h2_spec.specs.declared.causes.Cause.{Cause}
use Rattle.h2_spec.specs.declared.causes.Cause.TheVariants.{ContinuationOutsideBlock, HeadersAfterEndStream, BlockTooLarge, BlockTruncated, IntegerTooLong, IndexZero, IndexOutOfTables, HuffmanString, SizeUpdateLate, SizeUpdateTooLarge, SizeUpdateMissing, TooManyStreams, ListTooLarge, ContentMissing, TrailersWithoutEndStream}
use Rattle.h2_spec.specs.declared.connection.BlockView.{BlockView}
use Rattle.h2_spec.specs.declared.connection.Config.{Config}
use Rattle.h2_spec.specs.declared.connection.ConnectionState.{ConnectionState}
use Rattle.h2_spec.specs.declared.connection.Purpose.{Purpose}
use Rattle.h2_spec.specs.declared.connection.Purpose.TheVariants.{Request, Trailers, Closed, TableOnly}
use Rattle.h2_spec.specs.declared.frames.Head.{Head}
use Rattle.h2_spec.specs.declared.ignored.Ignored.{Ignored}
use Rattle.h2_spec.specs.declared.ignored.Ignored.TheVariants.{TableOnlyBlock}
use Rattle.h2_spec.specs.declared.reactions.Change.{Change}
use Rattle.h2_spec.specs.declared.reactions.BlockSummary.{BlockSummary}
use Rattle.h2_spec.specs.declared.reactions.Reaction.{Reaction}
use Rattle.h2_spec.specs.declared.reactions.Reaction.TheVariants.{ConnectionError, Continues}
use Rattle.h2_spec.specs.declared.reactions.StreamOutcome.{StreamOutcome}
use Rattle.h2_spec.specs.declared.streams.StreamState.TheVariants.{BothOpen}
use Rattle.h2_spec.specs.declared.streams.Stream.{Stream}
use Rattle.h2_spec.specs.Causes.Cause.{first_of}
use Rattle.h2_spec.specs.Frames.FrameType.{END_STREAM, END_HEADERS, has}
use Rattle.h2_spec.specs.Frames.Payload.{HeadersPart}
use Rattle.h2_spec.specs.Hpack.Field.{Field}
use Rattle.h2_spec.specs.Hpack.Block.{Fault, ZeroIndex, Index, Integer, Huffman, LateUpdate, LargeUpdate, MissingUpdate, Decoded, Unfinished, Faulty, decoded, list_size}
use Rattle.h2_spec.specs.Requests.Request.{request_fault, trailers_fault, declared_length, request_of}
use Rattle.h2_spec.specs.Requests.Answer.{Entry, pick_of, picked}
use Rattle.h2_spec.specs.Stream.{stream_at, live_count}
use Rattle.h2_spec.specs.State.{State, OpenBlock, Decoding, is_due}
use Rattle.h2_spec.specs.Change.{only_counts, ignoring, with_outcome, outcome_without_frame, stream_error, unless_broken}
use Rattle.h2_spec.specs.Requests.StreamEnds.{answered, peer_ended}
use Rattle.h2_spec.specs.Data.{length_broken}

-- the most octets of a block's fragments
abbrev pub max_block : ℕ
max_block = 65536

-- the largest list of fields (10.5.1)
abbrev pub max_list : ℕ
max_list = 65536

-- ---- the end of a block

-- what the fields of a request result in
abbrev pub request_summary : List Entry → List Field → BlockSummary
request_summary book fields = record { size = list_size fields; malformed = request_fault fields; declared = declared_length fields; pick = pick_of book (request_of fields) }

-- a stream that a request opens
abbrev pub new_stream : ConnectionState → ℕ → BlockSummary → Stream
new_stream core id f = record {
  id = id;
  kind = BothOpen;
  numbers = record { recv = pos core.own.window; owed = 0; send = pos core.peer.window; content_received = 0; declared = f.declared; body_remaining = None };
  pick = f.pick;
}

-- whether a content-length other than 0 is declared
abbrev pub declares_content : Option ℕ → Bool
declares_content None = false
declares_content (Some n) = not (n == 0)

-- a request that ends has the content that it declares (8.1.1)
abbrev pub missing : Bool → Option ℕ → Option Cause
missing ends declared = if ends && declares_content declared then Some ContentMissing else None

-- the stream that a request opens, with the number of live streams, the length of its answer's body, and whether that
-- answer is early
unfoldable pub request_outcome : Config → ℕ → ℕ → Bool → ConnectionState → ℕ → Bool → BlockSummary → StreamOutcome
unfolding answered peer_ended
request_outcome config live body early core id ends f =
    if nat_le config.streams live then stream_error id TooManyStreams
    else if nat_lt max_list f.size then stream_error id ListTooLarge
    else unless_broken (first_of f.malformed (missing ends f.declared)) id
    (if ends then peer_ended body (new_stream core id f)
    else if early then answered body (new_stream core id f)
    else outcome_without_frame (new_stream core id f))

-- trailers end the peer's side (8.1)
abbrev pub unended : Bool → Option Cause
unended true = None
unended false = Some TrailersWithoutEndStream

-- what trailers do to their stream: the size of their list, why they are malformed, if they are, and the length of
-- the answer's body
unfoldable pub trailers_outcome : ℕ → Option Cause → ℕ → Bool → Stream → StreamOutcome
unfolding peer_ended
trailers_outcome size malformed body ends st =
    if nat_lt max_list size then stream_error st.id ListTooLarge
    else unless_broken (first_of malformed (first_of (unended ends) (length_broken st.numbers.declared st.numbers.content_received true))) st.id (peer_ended body st)

-- the end of a request's block
abbrev pub request_ends : State → ℕ → Bool → List Field → Change
request_ends s id ends fields =
    let f = request_summary s.book fields in
    let a = picked s.book f.pick in
    with_outcome (only_counts (record s.core { last = id })) (request_outcome s.config (live_count s.streams) (length a.body) a.early s.core id ends f)

-- the end of a block of trailers
abbrev pub trailers_end : State → ℕ → Bool → List Field → Change
trailers_end s id ends fields =
    let st = stream_at s.core.last s.streams id in
    with_outcome (only_counts s.core) (trailers_outcome (list_size fields) (trailers_fault fields) (length (picked s.book st.pick).body) ends st)

-- the end of a block, by its purpose
abbrev pub block_ends : State → ℕ → Bool → List Field → Purpose → Change
block_ends s id ends fields Request = request_ends s id ends fields
block_ends s id ends fields Trailers = trailers_end s id ends fields
block_ends s id ends fields Closed = with_outcome (only_counts s.core) (stream_error id HeadersAfterEndStream)
block_ends s id ends fields TableOnly = ignoring TableOnlyBlock (only_counts s.core)

-- ---- fragments

-- what a frame results in: a connection error, or a state, with its block and table, in which the change is made
pub data FrameEffect : Type 0 where
  Breaks : Cause → FrameEffect
  Makes : State → Change → FrameEffect

-- a reaction that leaves block and table as they are
abbrev pub makes : State → Reaction → FrameEffect
makes s (ConnectionError cause) = Breaks cause
makes s (Continues c) = Makes s c

-- the state with this block open
abbrev pub with_block : State → Option OpenBlock → State
with_block s b = record s { block = b }

-- a fragment of a block that only the header table follows is ignored for that reason (4.3)
abbrev pub fragment_ignored : Purpose → Option Ignored
fragment_ignored Request = None
fragment_ignored Trailers = None
fragment_ignored Closed = None
fragment_ignored TableOnly = Some TableOnlyBlock

-- what changes for a fragment after which its block goes on
abbrev pub goes_on : ConnectionState → Purpose → Change
goes_on core purpose = record (only_counts core) { ignored = fragment_ignored purpose }

-- the fragments so far are decoded, up to the beginning of an instruction
abbrev pub fragment_read : State → BlockView → Decoding → Bool → FrameEffect
fragment_read s b d false = Makes (with_block s (Some (record { shown = b; decoding = Some d }))) (goes_on s.core d.purpose)
fragment_read s b d true =
    if not (length d.rest == 0) then Breaks BlockTruncated
    else if d.due then Breaks SizeUpdateMissing
    else Makes (with_block s None) (block_ends s b.stream b.ends d.fields d.purpose)

-- why a block that can't be decoded is refused (4.3)
abbrev pub fault_cause : Fault → Cause
fault_cause ZeroIndex = IndexZero
fault_cause Index = IndexOutOfTables
fault_cause Integer = IntegerTooLong
fault_cause Huffman = HuffmanString
fault_cause LateUpdate = SizeUpdateLate
fault_cause LargeUpdate = SizeUpdateTooLarge
fault_cause MissingUpdate = SizeUpdateMissing

-- a fragment was decoded: the block and the table after it, or its fault
abbrev pub fragment_decoded : State → BlockView → Purpose → Bool → Decoded → FrameEffect
fragment_decoded s b purpose end_headers d = elim d.outcome [
  | Unfinished rest ↦ fragment_read (record s { table = d.progress.table }) (record b { list_size = list_size d.progress.fields }) (record { purpose = purpose; fields = d.progress.fields; due = d.progress.due; rest = rest }) end_headers
  | Faulty fault ↦ Breaks (fault_cause fault)
]

-- what the octets of a fragment do, after those of the block that are not decoded yet
abbrev pub decoded_with : State → Decoding → List ℕ → Decoded
decoded_with s d octets = decoded s.core.own.table (record { fields = d.fields; table = s.table; due = d.due }) (d.rest ++ octets)

-- a fragment of a block
abbrev pub fragment : State → BlockView → Decoding → List ℕ → Bool → FrameEffect
fragment s b d octets end_headers =
    if nat_lt max_block (b.octets + length octets) then Breaks BlockTooLarge
    else fragment_decoded s (record b { octets = b.octets + length octets }) d.purpose end_headers (decoded_with s d octets)

-- a block of which nothing has arrived yet
abbrev pub fresh_block : Head → BlockView
fresh_block h = record { stream = h.stream; octets = 0; list_size = 0; ends = has h.flags END_STREAM }

-- nothing of a block is decoded yet: it has to begin with a size update where one is due
abbrev pub fresh_decoding : State → Purpose → Decoding
fresh_decoding s purpose = record { purpose = purpose; fields = []; due = is_due s; rest = [] }

-- HEADERS opens a block
abbrev pub block_opens : State → Purpose → Head → HeadersPart → FrameEffect
block_opens s purpose h part = fragment s (fresh_block h) (fresh_decoding s purpose) part.fragment (has h.flags END_HEADERS)

-- CONTINUATION goes on with the open block; there is none after the end of the connection
abbrev pub continued : State → BlockView → Option Decoding → List ℕ → Bool → FrameEffect
continued s b None octets end_headers = Breaks ContinuationOutsideBlock
continued s b (Some d) octets end_headers = fragment s b d octets end_headers

-- CONTINUATION where no block is open is an error
abbrev pub continuation : State → Option OpenBlock → List ℕ → Bool → FrameEffect
continuation s None octets end_headers = Breaks ContinuationOutsideBlock
continuation s (Some b) octets end_headers = continued s b.shown b.decoding octets end_headers
