-- What a change and the sending after it result in.
use Rattle.std.specs.Prelude.{◌≡◌, ◌≤◌, ℕ, false, List, ◌++◌, ◌-◌, pos, ◌-ℤ◌, IfOk, OnErr, OnOk, Result, length, take}
use Rattle.std.specs.List.{AllByRecursion}
use Rattle.h2_spec.specs.declared.connection.ConnectionState.{ConnectionState}
use Rattle.h2_spec.specs.declared.connection.Phase.{Phase}
use Rattle.h2_spec.specs.declared.connection.Phase.TheVariants as phase
use Rattle.h2_spec.specs.declared.reactions.Change.{Change}
use Rattle.h2_spec.specs.declared.reactions.RecordUpdate.{RecordUpdate}
use Rattle.h2_spec.specs.declared.reactions.RecordUpdate.TheVariants.{Unchanged, Put, Shift, Receive}
use Rattle.h2_spec.specs.declared.streams.Stream.{Stream}
use Rattle.h2_streams.specs.Put.{CanPut}
use Rattle.h2_streams.specs.Shift.{CanReceive, CanShift}
use Rattle.h2_spec.specs.Requests.Answer.{Entry}
use Rattle.h2_spec.specs.Change.{frames_of, moved_by, overflows, received, shifted, updated_streams}
use Rattle.h2_spec.specs.Frames.Frame.{Frame, frames_octets}
use Rattle.h2_spec.specs.SendPending.{allowance, sent_frames, all_after_sending, window_left}
use Rattle.h2_spec.specs.Stream.{Records}
use Rattle.h2_spec.specs.Window.{sendable}
use Rattle.h2_conn_rules.specs.Sound.{HasBody, updated_records}
use Rattle.h2_spec.specs.Short.{AreShort}

-- the octets that the connection's window lets pass: none once the connection has ended
abbrev pub open_window_as : Phase → ConnectionState → ℕ
open_window_as phase.Preface core = sendable core.send
open_window_as phase.Settings core = sendable core.send
open_window_as phase.Running core = sendable core.send
open_window_as (phase.Ended code) core = 0

abbrev pub open_window : ConnectionState → ℕ
open_window core = open_window_as core.phase core

-- the pending output of records is sent with these counts
abbrev pub waiting_frames : List Entry → ConnectionState → List Stream → List Frame
waiting_frames book core streams = sent_frames book core.peer.frame (open_window core) streams

-- the records after it
abbrev pub streams_after : ConnectionState → List Stream → List Stream
streams_after core streams = all_after_sending (open_window core) streams

-- how many octets of the connection's window it takes
abbrev pub sent_count : ConnectionState → List Stream → ℕ
sent_count core streams = open_window core - window_left (open_window core) streams

-- the counts after it
abbrev pub core_after : ConnectionState → List Stream → ConnectionState
core_after core streams = record core { send = core.send -ℤ pos (sent_count core streams) }

-- all that is sent for a change, and after it
abbrev pub all_frames : List Entry → Change → List Stream → List Frame
all_frames book c streams = frames_of book c ++ waiting_frames book c.core (updated_streams c.record_update streams)

-- the records after their pending output is sent with this much of the connection's window
abbrev pub sent_records : ℕ → Records → Records
sent_records window r = record r { streams = all_after_sending window r.streams }

-- the records after their pending output is sent with these counts
abbrev pub records_after : ConnectionState → Records → Records
records_after core r = sent_records (open_window core) r

-- with this much of the connection's window no stream sends anything
abbrev pub NoneSends : ℕ → List Stream → Type 0
NoneSends window streams = AllByRecursion (λ st. allowance window st ≡ 0) streams

-- what becomes of records can be done: a record can be put, windows can be moved
abbrev pub CanApply : Records → RecordUpdate → Type 0
CanApply r Unchanged = Unit {0}
CanApply r (Put st) = CanPut st r
CanApply r (Shift from to) = AllByRecursion (CanShift (moved_by from to)) r.streams × (overflows (moved_by from to) r.streams ≡ false)
CanApply r (Receive from to) = AllByRecursion (CanReceive (moved_by from to)) r.streams

-- what becomes of records can be undone: moved windows can be moved back
abbrev pub CanUndo : Records → RecordUpdate → Type 0
CanUndo r Unchanged = Unit {0}
CanUndo r (Put st) = Unit {0}
CanUndo r (Shift from to) = CanApply (record r { streams = shifted (moved_by from to) r.streams }) (Shift to from)
CanUndo r (Receive from to) = CanApply (record r { streams = received (moved_by from to) r.streams }) (Receive to from)

-- what becomes of records can be done and undone, and their pending output can then be sent: each stream has its body
-- in the book
pub record CanSend (book : List Entry) (r : Records) (record_update : RecordUpdate) : Type 0 where
  pub made : CanApply r record_update
  pub undone : CanUndo r record_update
  pub bodies : AllByRecursion (HasBody book) (updated_streams record_update r.streams)

-- these records send what a window lets pass, in frames of this size: how many octets, the frames after what was in out,
-- and the records after it; or, where memory is refused, a part of the frames, and the records as they were before
pub record Sends {E : Type 0} (book : List Entry) (size window : ℕ) (before r : Records) (out : List ℕ) (result : Result ℕ E) (now : Records) (out' : List ℕ) : Type 0 where
  pub count : IfOk result (λ count. (count ≡ window - window_left window r.streams) × (count ≤ window))
  pub sent : OnOk result (out' ≡ out ++ frames_octets (sent_frames book size window r.streams))
  pub records : OnOk result (now ≡ sent_records window r)
  pub kept : take (length out) out' ≡ out
  pub err : OnErr result (now ≡ before)

-- a change is sent, and the pending output after it: how many octets of the send window it takes, the frames after what
-- was in out, and the records after it
pub record SendsChange {E : Type 0} (book : List Entry) (c : Change) (r : Records) (out : List ℕ) (result : Result ℕ E) (now : Records) (out' : List ℕ) : Type 0 where
  pub count : IfOk result (λ count. (count ≡ sent_count c.core (updated_streams c.record_update r.streams)) × (count ≤ sendable c.core.send))
  pub sent : OnOk result (out' ≡ out ++ frames_octets (all_frames book c r.streams))
  pub short : OnOk result (AreShort (all_frames book c r.streams))
  pub records : OnOk result (now ≡ records_after c.core (updated_records c.record_update r))
