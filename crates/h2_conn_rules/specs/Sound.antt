-- What is true of the counts of every connection: windows stay within their limits, whatever is given back or moved.
use Rattle.std.specs.Prelude.{◌≡◌, ℕ, ◌<◌, ◌≤◌, ◌^◌, ◌||◌, length, Bool, true, false, List, ℤ, pos, negsuc, ◌+ℤ◌, ◌≤ℤ◌, max}
use Rattle.std.specs.List.{AllByRecursion}
use Rattle.h2_spec.specs.declared.connection.ConnectionState.{ConnectionState}
use Rattle.h2_spec.specs.declared.flow.LocalSettings.{LocalSettings}
use Rattle.h2_spec.specs.declared.reactions.Change.{Change}
use Rattle.h2_spec.specs.declared.reactions.Reaction.{Reaction}
use Rattle.h2_spec.specs.declared.reactions.Reaction.TheVariants.{ConnectionError, Continues}
use Rattle.h2_spec.specs.declared.reactions.RecordUpdate.{RecordUpdate}
use Rattle.h2_spec.specs.declared.reactions.RecordUpdate.TheVariants.{Unchanged, Put, Shift, Receive}
use Rattle.h2_spec.specs.declared.streams.StreamState.{StreamState}
use Rattle.h2_spec.specs.declared.streams.Numbers.{Numbers}
use Rattle.h2_spec.specs.declared.streams.Stream.{Stream}
use Rattle.h2_spec.specs.Requests.Answer.{Entry, picked}
use Rattle.h2_spec.specs.Stream.{Records, is_live, octets_waiting, stream_at, with_record}
use Rattle.h2_streams.specs.Put.{CanPut, is_closed}
use Rattle.h2_request_book.specs.Lent.{IsPickOf}
use Rattle.h2_spec.specs.Change.{follows_initial_window, overflows, moved_by, received, shifted}

-- octets that may be given back: the window does not pass its greatest value with them
abbrev pub IsCredit : ℤ → ℕ → Type 0
IsCredit recv owed = (recv +ℤ pos owed) ≤ℤ pos 2147483647

-- windows of streams may be negative, but are numbers of 32 bits
abbrev pub IsWindow : ℤ → Type 0
IsWindow w = negsuc 2147483647 ≤ℤ w

-- settings of the server that windows and lengths of frames can hold
abbrev pub AreInRange : LocalSettings → Type 0
AreInRange own = (own.window ≤ 2147483647) × (own.frame < 2 ^ 24)

abbrev pub IsSoundConnectionState : ConnectionState → Type 0
IsSoundConnectionState core = IsCredit core.recv core.owed × (core.peer.window ≤ 2147483647) × (0 < core.peer.frame) × (core.peer.frame < 2 ^ 24) × AreInRange core.own

-- what is in force: the peer's initial window, and the server's settings
pub record InForce : Type 0 where
  pub window : ℕ
  pub own : LocalSettings

abbrev pub in_force : ConnectionState → InForce
in_force core = record { window = core.peer.window; own = core.own }

-- the receive window and what is owed make up the server's initial window, so that it can be moved
abbrev pub MakesUp : ℕ → Numbers → Type 0
MakesUp window numbers = ((numbers.recv +ℤ pos numbers.owed) ≡ pos window) × (numbers.owed ≤ 2147483647)

-- the receive window of a live stream is the server's initial window without what is owed, and the send window may be
-- moved
abbrev pub IsSoundStream : InForce → Stream → Type 0
IsSoundStream f st =
    (is_live st.kind ≡ true → MakesUp f.own.window st.numbers) × (st.numbers.send ≤ℤ pos 2147483647) × (follows_initial_window st.kind ≡ true → pos f.window ≤ℤ (st.numbers.send +ℤ pos 2147483647))

-- the pick is one of the book, and the pending output is part of the body of the stream's answer
abbrev pub HasBody : List Entry → Stream → Type 0
HasBody book st = IsPickOf book st.pick × (octets_waiting st ≤ length (picked book st.pick).body)

-- whether a stream has been opened, so that it has a record
abbrev pub is_recorded : StreamState → Bool
is_recorded kind = is_live kind || is_closed kind

-- what becomes of the streams: with the book, the records before, what was in force before, and the counts after; the
-- server's settings stay as they are, since they come into force at their acknowledgement alone
abbrev pub IsSoundRecordUpdate : List Entry → Records → InForce → ConnectionState → RecordUpdate → Type 0
IsSoundRecordUpdate book r before now Unchanged = (before ≡ in_force now) × (now.last ≡ r.last)
IsSoundRecordUpdate book r before now (Put st) = IsSoundStream (in_force now) st × HasBody book st × (before ≡ in_force now) × CanPut st r × (now.last ≡ max r.last st.id) × (is_recorded st.kind ≡ true)
IsSoundRecordUpdate book r before now (Shift from to) = (overflows (moved_by from to) r.streams ≡ false) × (from ≡ before.window) × (to ≡ now.peer.window) × (now.last ≡ r.last) × (before.own ≡ now.own)
IsSoundRecordUpdate book r before now (Receive from to) = ⊥

-- with the records and what was in force before it
abbrev pub IsSoundChange : List Entry → Records → InForce → Change → Type 0
IsSoundChange book r before c = IsSoundConnectionState c.core × IsSoundRecordUpdate book r before c.core c.record_update

abbrev pub IsSound : List Entry → Records → InForce → Reaction → Type 0
IsSound book r before (ConnectionError code) = Unit {0}
IsSound book r before (Continues c) = IsSoundChange book r before c

-- the same of a reaction to a frame on a stream that has this record, or is represented by it, with these counts
abbrev pub IsSoundAt : List Entry → Records → ConnectionState → Stream → Reaction → Type 0
IsSoundAt book r core st reaction = HasBody book st → st ≡ stream_at r.last r.streams st.id → r.last ≡ core.last → IsSound book r (in_force core) reaction

-- a change of the counts alone
abbrev pub IsCalm : ConnectionState → Change → Type 0
IsCalm core c = IsSoundConnectionState c.core × (in_force c.core ≡ in_force core) × (c.core.last ≡ core.last)

-- all records are sound, with the book and what is in force, and are of streams that have been opened
abbrev pub AreSound : List Entry → InForce → List Stream → Type 0
AreSound book f streams = AllByRecursion (λ st. IsSoundStream f st × HasBody book st × (is_recorded st.kind ≡ true)) streams

-- what is true of the counts and the records of every connection
pub record IsSoundState (book : List Entry) (core : ConnectionState) (r : Records) : Type 0 where
  pub counts : IsSoundConnectionState core
  pub records : AreSound book (in_force core) r.streams
  pub last : r.last ≡ core.last

-- the records after a change
abbrev pub updated_records : RecordUpdate → Records → Records
updated_records Unchanged r = r
updated_records (Put st) r = with_record st r
updated_records (Shift from to) r = record r { streams = shifted (moved_by from to) r.streams }
updated_records (Receive from to) r = record r { streams = received (moved_by from to) r.streams }
