-- The written table: what a frame on a stream does, by its type and the stream's state (RFC 9113, 5.1).
use Rattle.std.specs.Prelude.{ℕ, Bool, true, false, ◌%◌, ◌==◌, if◌then◌else◌}
use Rattle.h2_spec.specs.declared.causes.Cause.{Cause}
use Rattle.h2_spec.specs.declared.causes.Cause.TheVariants.{DataOnIdle, DataOnSkipped, DataAfterEndStream, DataOnClosed, HeadersOnEven, HeadersOnSkipped, HeadersOnClosed, RstStreamOnIdle, WindowUpdateOnIdle}
use Rattle.h2_spec.specs.declared.connection.Purpose.{Purpose}
use Rattle.h2_spec.specs.declared.connection.Purpose.TheVariants.{Request, Trailers, Closed, TableOnly}
use Rattle.h2_spec.specs.declared.ignored.Ignored.{Ignored}
use Rattle.h2_spec.specs.declared.ignored.Ignored.TheVariants.{RstStreamOnSkipped, RstStreamOnClosed, RstStreamOnPeerReset, RstStreamOnReset, WindowUpdateOnSkipped, WindowUpdateOnClosed, WindowUpdateOnPeerReset, WindowUpdateOnReset, WindowUpdateByZero, DataOnReset}
use Rattle.h2_spec.specs.declared.streams.StreamState.{StreamState}
use Rattle.h2_spec.specs.declared.streams.StreamState.TheVariants.{Idle, Skipped, BothOpen, HalfRemote, HalfLocal, Ended, PeerReset, WeReset}

-- what the table says: a connection error, that the frame is ignored and why, or a rule of the frame's type
pub data Cell (R : Type 0) : Type 0 where
  Error : Cause → Cell R
  Ignore : Ignored → Cell R
  Rule : R → Cell R

-- DATA is taken by its stream; or counted on the connection, and then a stream error or ignored
pub data DataRule : Type 0 where
  Take : DataRule
  Refuse : Cause → DataRule
  Count : Ignored → DataRule

-- RST_STREAM resets its stream
pub data ResetRule : Type 0 where
  PeerResets : ResetRule

-- WINDOW_UPDATE moves its stream's send window
pub data WindowRule : Type 0 where
  MoveWindow : WindowRule

-- DATA (6.1)
abbrev pub data_cell : StreamState → Cell DataRule
data_cell Idle = Error DataOnIdle
data_cell Skipped = Error DataOnSkipped
data_cell BothOpen = Rule Take
data_cell HalfLocal = Rule Take
data_cell HalfRemote = Rule (Refuse DataAfterEndStream)
data_cell Ended = Error DataOnClosed
data_cell PeerReset = Error DataOnClosed
data_cell WeReset = Rule (Count DataOnReset)

-- HEADERS open a block for this (6.2); a client begins streams with odd identifiers (5.1.1)
abbrev pub headers_cell : ℕ → StreamState → Cell Purpose
headers_cell id Idle = if id % 2 == 1 then Rule Request else Error HeadersOnEven
headers_cell id Skipped = Error HeadersOnSkipped
headers_cell id BothOpen = Rule Trailers
headers_cell id HalfLocal = Rule Trailers
headers_cell id HalfRemote = Rule Closed
headers_cell id Ended = Error HeadersOnClosed
headers_cell id PeerReset = Error HeadersOnClosed
headers_cell id WeReset = Rule TableOnly

-- RST_STREAM (6.4)
abbrev pub reset_cell : StreamState → Cell ResetRule
reset_cell Idle = Error RstStreamOnIdle
reset_cell Skipped = Ignore RstStreamOnSkipped
reset_cell BothOpen = Rule PeerResets
reset_cell HalfLocal = Rule PeerResets
reset_cell HalfRemote = Rule PeerResets
reset_cell Ended = Ignore RstStreamOnClosed
reset_cell PeerReset = Ignore RstStreamOnPeerReset
reset_cell WeReset = Ignore RstStreamOnReset

-- an increment of 0 that is ignored has a reason of its own (6.9)
abbrev pub unless_zero : Bool → Ignored → Ignored
unless_zero true reason = WindowUpdateByZero
unless_zero false reason = reason

-- WINDOW_UPDATE, by whether its increment is 0 (6.9)
abbrev pub window_cell : Bool → StreamState → Cell WindowRule
window_cell zero Idle = Error WindowUpdateOnIdle
window_cell zero Skipped = Ignore (unless_zero zero WindowUpdateOnSkipped)
window_cell zero BothOpen = Rule MoveWindow
window_cell zero HalfLocal = Rule MoveWindow
window_cell zero HalfRemote = Rule MoveWindow
window_cell zero Ended = Ignore (unless_zero zero WindowUpdateOnClosed)
window_cell zero PeerReset = Ignore (unless_zero zero WindowUpdateOnPeerReset)
window_cell zero WeReset = Ignore (unless_zero zero WindowUpdateOnReset)

-- what a cell results in: at an error, where the frame is ignored, by the rule
abbrev pub run_cell : {R X : Type 0} → (Cause → X) → (Ignored → X) → (R → X) → Cell R → X
run_cell error ignore rule (Error cause) = error cause
run_cell error ignore rule (Ignore reason) = ignore reason
run_cell error ignore rule (Rule r) = rule r
