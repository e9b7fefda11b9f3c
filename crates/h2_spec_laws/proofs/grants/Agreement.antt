-- What a state and the tally of one stream have to do with each other, after each item.
use Rattle.std.proofs.Common.{◌≡◌, ℕ, ◌+◌, ◌-◌, ◌<◌, ◌≤◌, Bool, true, false, List, [], ◌∷◌, ◌++◌, length, drop, eqb, Option, Some, None}
use Rattle.std.specs.Prelude.{ℤ, pos, ◌+ℤ◌}
use Rattle.std.specs.Option.{is_some}
use Rattle.h2_spec.specs.declared.connection.Phase.{Phase}
use Rattle.h2_spec.specs.declared.connection.Purpose.{Purpose}
use Rattle.h2_spec.specs.declared.connection.Purpose.TheVariants.{Request, Trailers, Closed, TableOnly}
use Rattle.h2_spec.specs.declared.streams.StreamState.{StreamState}
use Rattle.h2_spec.specs.declared.streams.StreamState.TheVariants.{Idle, Skipped, BothOpen, HalfRemote, HalfLocal, Ended, PeerReset, WeReset}
use Rattle.h2_spec.specs.declared.streams.Stream.{Stream}
use Rattle.h2_spec.specs.Requests.Answer.{Entry, picked}
use Rattle.h2_spec.specs.Stream.{octets_waiting, stream_at}
use Rattle.h2_spec.specs.State.{State, OpenBlock, Decoding}
use Rattle.h2_spec_laws.specs.Grants.{StreamTally, Tally, When, IsWithinConnection, IsOfBody, blank, has_ended}
use Rattle.h2_spec_laws.specs.Order.{Rise}

-- ---- a record and its tally

-- the pending output: nothing before the answer begins, then the body less what was sent
abbrev pub Waits : List ℕ → Option ℕ → StreamTally → Type 0
Waits body None m = (m.headers ≡ 0) × (m.content ≡ [])
Waits body (Some n) m = (m.headers ≡ 1) × (1 ≤ n) × (n ≤ length body) × (m.content ++ drop (length body - n) body ≡ body)

-- the server's side is open: the send window is the initial one now and the grants, less what was sent
pub record Sends (body : List ℕ) (window : ℕ) (send : ℤ) (left : Option ℕ) (m : StreamTally) : Type 0 where
  pub promised : m.promised ≡ Some body
  pub send_is : send +ℤ pos (length m.content) ≡ pos (window + m.granted)
  pub waits : Waits body left m
  pub ended : m.ended ≡ false
  pub reset : m.reset ≡ false

-- the server's side is closed by END_STREAM
pub record HasEnded (m : StreamTally) : Type 0 where
  pub promised : is_some m.promised ≡ true
  pub of_body : IsOfBody m
  pub ended : m.ended ≡ true

-- the stream was reset
pub record Cut (m : StreamTally) : Type 0 where
  pub promised : is_some m.promised ≡ true
  pub of_body : IsOfBody m
  pub reset : m.reset ≡ true

-- a tally, by the state of its stream
abbrev pub FitsAs : StreamState → List ℕ → ℕ → ℤ → Option ℕ → StreamTally → Type 0
FitsAs Idle body window send left m = ⊥
FitsAs Skipped body window send left m = ⊥
FitsAs BothOpen body window send left m = Sends body window send left m
FitsAs HalfRemote body window send left m = Sends body window send left m
FitsAs HalfLocal body window send left m = HasEnded m × (m.reset ≡ false) × (left ≡ None)
FitsAs Ended body window send left m = HasEnded m
FitsAs PeerReset body window send left m = Cut m
FitsAs WeReset body window send left m = Cut m

abbrev pub Fits : List Entry → ℕ → Stream → StreamTally → Type 0
Fits book window st m = FitsAs st.kind (picked book st.pick).body window st.numbers.send st.numbers.body_remaining m

-- ---- the records

-- no record has the identifier
abbrev pub Absent : ℕ → List Stream → Type 0
Absent id [] = Unit {0}
Absent id (st ∷ sts) = (eqb st.id id ≡ false) × Absent id sts

-- nothing was promised and nothing answered
pub record Unasked (m : StreamTally) : Type 0 where
  pub promised : m.promised ≡ None
  pub headers : m.headers ≡ 0
  pub content : m.content ≡ []
  pub ended : m.ended ≡ false

abbrev pub Either : Bool → Type 0 → Type 0 → Type 0
Either true P Q = P
Either false P Q = Q

-- the tally fits the stream's record, of which there is at most one
abbrev pub FitsStreams : List Entry → ℕ → ℕ → List Stream → StreamTally → Type 0
FitsStreams book window id [] m = Unasked m
FitsStreams book window id (st ∷ sts) m = Either (eqb st.id id) (Fits book window st m × Absent id sts) (FitsStreams book window id sts m)

-- a state that a record can have
abbrev pub IsRecorded : StreamState → Type 0
IsRecorded Idle = ⊥
IsRecorded Skipped = ⊥
IsRecorded BothOpen = Unit {0}
IsRecorded HalfRemote = Unit {0}
IsRecorded HalfLocal = Unit {0}
IsRecorded Ended = Unit {0}
IsRecorded PeerReset = Unit {0}
IsRecorded WeReset = Unit {0}

-- the pending output of a stream is no more than its answer's body, and its state is one of a record
abbrev pub HasBody : List Entry → Stream → Type 0
HasBody book st = (octets_waiting st ≤ length (picked book st.pick).body) × IsRecorded st.kind

abbrev pub Bodies : List Entry → List Stream → Type 0
Bodies book [] = Unit {0}
Bodies book (st ∷ sts) = HasBody book st × Bodies book sts

-- ---- the open block

-- a request's block is on a stream above the last one, and the others are on streams that have a record; nothing
-- follows the server's reset
abbrev pub IsPlaced : Purpose → ℕ → List Stream → ℕ → Type 0
IsPlaced Request last streams j = last < j
IsPlaced Trailers last streams j = IsRecorded (stream_at last streams j).kind
IsPlaced Closed last streams j = IsRecorded (stream_at last streams j).kind
IsPlaced TableOnly last streams j = Unit {0}

abbrev pub IsFor : Purpose → StreamTally → Type 0
IsFor Request m = Unit {0}
IsFor Trailers m = (is_some m.promised ≡ true) × (m.reset ≡ false)
IsFor Closed m = (is_some m.promised ≡ true) × (m.reset ≡ false)
IsFor TableOnly m = is_some m.promised ≡ true

-- the block of stream j
abbrev pub IsBlock : ℕ → ℕ → List Stream → ℕ → Purpose → StreamTally → Type 0
IsBlock id last streams j purpose m = IsPlaced purpose last streams j × When (eqb j id) (IsFor purpose m)

abbrev pub IsDecoding : ℕ → ℕ → List Stream → ℕ → Option Decoding → StreamTally → Type 0
IsDecoding id last streams j None m = Unit {0}
IsDecoding id last streams j (Some d) m = IsBlock id last streams j d.purpose m

abbrev pub FitsBlock : ℕ → ℕ → List Stream → Option OpenBlock → StreamTally → Type 0
FitsBlock id last streams None m = Unit {0}
FitsBlock id last streams (Some b) m = IsDecoding id last streams b.shown.stream b.decoding m

-- it looks at two parts of the tally alone, and at which streams have a record
pub FitsBlock-same : (id last : ℕ) (streams others : List Stream) (o : Option OpenBlock) (m n : StreamTally) → n.promised ≡ m.promised → n.reset ≡ m.reset →
    ((j : ℕ) → IsRecorded (stream_at last streams j).kind → IsRecorded (stream_at last others j).kind) → FitsBlock id last streams o m → FitsBlock id last others o n
FitsBlock-same id last streams others None m n e f r h = tt
FitsBlock-same id last streams others (Some b) m n e f r h = decoding b.decoding h
  where
    j : ℕ
    j = b.shown.stream

    at : (c : Bool) (p : Purpose) → When c (IsFor p m) → When c (IsFor p n)
    at false p h = tt
    at true Request h = h
    at true Trailers h = (rw e h.0, rw f h.1)
    at true Closed h = (rw e h.0, rw f h.1)
    at true TableOnly h = rw e h

    placed : (p : Purpose) → IsPlaced p last streams j → IsPlaced p last others j
    placed Request h = h
    placed Trailers h = r j h
    placed Closed h = r j h
    placed TableOnly h = h

    decoding : (o : Option Decoding) → IsDecoding id last streams j o m → IsDecoding id last others j o n
    decoding None h = tt
    decoding (Some d) h = (placed d.purpose h.0, at (eqb j id) d.purpose h.1)

-- ---- all of it

-- the parts of the state that matter
pub record AgreementOf (book : List Entry) (id : ℕ) (entries : List Entry) (phase : Phase) (last : ℕ) (send : ℤ) (window frame : ℕ) (block : Option OpenBlock) (streams : List Stream) (t : Tally) : Type 0 where
  pub running : has_ended phase ≡ false
  pub same_book : entries ≡ book
  pub same_window : window ≡ t.window
  pub same_frame : frame ≡ t.frame
  pub some_frame : 1 ≤ t.frame
  -- the connection's send window is what it was at first and the grants, less what was sent
  pub send_is : send +ℤ pos t.sent ≡ pos (65535 + t.granted)
  pub within : IsWithinConnection t
  pub agreed : FitsStreams book t.window id streams t.on_stream
  pub bodies : Bodies book streams
  pub ordered : Rise 0 last streams
  -- a stream that is still idle has neither record nor tally
  pub idle : last < id → (t.on_stream ≡ blank) × Absent id streams
  pub of_block : FitsBlock id last streams block t.on_stream

abbrev pub Agreement : List Entry → ℕ → State → Tally → Type 0
Agreement book id s t = AgreementOf book id s.book s.core.phase s.core.last s.core.send s.core.peer.window s.core.peer.frame s.block s.streams t
