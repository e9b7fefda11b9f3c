-- Which rules leave most counts of a connection as they are.
use Rattle.std.proofs.Common.{◌≡◌, ℕ, ◌+◌, Bool, true, false, Option, Some, None, refl, ap, subst, sym, pos, ◌-ℤ◌, int_lt}
use Rattle.std.specs.Prelude.{List, ◌==◌, ◌+ℤ◌, if◌then◌else◌}
use Rattle.h2_spec.specs.declared.connection.Config.{Config}
use Rattle.h2_spec.specs.declared.connection.ConnectionState.{ConnectionState}
use Rattle.h2_spec.specs.declared.connection.Purpose.{Purpose}
use Rattle.h2_spec.specs.declared.connection.Purpose.TheVariants.{Request, Trailers, Closed, TableOnly}
use Rattle.h2_spec.specs.declared.causes.Cause.TheVariants.{ConnectionIncrementZero, ConnectionWindowExceeded, ConnectionWindowOverflow, DataAfterEndStream, StreamIncrementZero, StreamWindowOverflow}
use Rattle.h2_spec.specs.declared.reactions.Change.{Change}
use Rattle.h2_spec.specs.declared.reactions.Reaction.{Reaction}
use Rattle.h2_spec.specs.declared.reactions.Reaction.TheVariants.{ConnectionError, Continues}
use Rattle.h2_spec.specs.declared.reactions.ReceivedData.{ReceivedData}
use Rattle.h2_spec.specs.declared.ignored.Ignored.{Ignored}
use Rattle.h2_spec.specs.declared.ignored.Ignored.TheVariants.{DataOnReset}
use Rattle.h2_spec.specs.declared.reactions.StreamOutcome.{StreamOutcome}
use Rattle.h2_spec.specs.declared.streams.Pick.{Pick}
use Rattle.h2_spec.specs.declared.streams.StreamState.{StreamState}
use Rattle.h2_spec.specs.declared.streams.StreamState.TheVariants.{Idle, Skipped, BothOpen, HalfRemote, HalfLocal, Ended, PeerReset, WeReset}
use Rattle.h2_spec.specs.declared.streams.Stream.{Stream}
use Rattle.h2_spec.specs.Change.{ignoring, only_counts, outcome_without_frame, still_pending, stream_error, with_outcome, with_send, with_size_update_pending}
use Rattle.h2_spec.specs.Data.{counted, data_counted, data_outcome, data_refused, data_taken, if_within, owed_as, owed_on_connection}
use Rattle.h2_spec.specs.Effect.{data_rule, ignore, on_data, on_ping, on_reset, on_window, reset_outcome, reset_rule, window_rule}
use Rattle.h2_spec.specs.Hpack.Field.{Field}
use Rattle.h2_spec.specs.Requests.Headers.{block_ends}
use Rattle.h2_spec.specs.ReactionTable.{data_cell, reset_cell, run_cell, window_cell}
use Rattle.h2_spec.specs.State.{State}
use Rattle.h2_spec.specs.Window.{given_back, is_above_max}
use Rattle.h2_spec.specs.WindowUpdate.{connection_window, window_outcome}
use Rattle.h2_conn.specs.Counts.{IsCounted, LeavesCounts, with_counts}
use Rattle.h2_conn.specs.Records.{records}
use Rattle.h2_conn_rules.specs.Sound.{IsSound, in_force}

-- a test between two reactions that do
by-test : (core : ConnectionState) (t : Bool) (r s : Reaction) → IsCounted core r → IsCounted core s → IsCounted core (if t then r else s)
by-test core true r s first second = first
by-test core false r s first second = second

-- what is equal to such a reaction, with the same counts
pub counted-by : (core now : ConnectionState) (r s : Reaction) → r ≡ s → now ≡ core → IsCounted now s → IsCounted core r
counted-by core now r s same is h = subst (λ (k : ConnectionState). IsCounted k r) is (subst (IsCounted now) (sym same) h)

-- what a rule says with a state's counts is sound for the state
pub sound-by : (s : State) (core : ConnectionState) (r : Reaction) → core ≡ s.core → (s.core.last ≡ core.last → IsSound s.book (records s) (in_force core) r) → IsSound s.book (records s) (in_force s.core) r
sound-by s core r same sound = subst (λ (k : ConnectionState). IsSound s.book (records s) (in_force k) r) same (sound (sym (ap (λ (k : ConnectionState). k.last) same)))

-- ---- rules that leave all counts

pub leaves-by : (core now : ConnectionState) (r s : Reaction) → r ≡ s → now ≡ core → LeavesCounts now s → LeavesCounts core r
leaves-by core now r s same is h = subst (λ (k : ConnectionState). LeavesCounts k r) is (subst (LeavesCounts now) (sym same) h)

pub ignore-leaves : (core : ConnectionState) (reason : Ignored) → LeavesCounts core (ignore core reason)
ignore-leaves core reason = refl

pub ping-leaves : (core : ConnectionState) (is_answer : Bool) (octets : List ℕ) → LeavesCounts core (on_ping core is_answer octets)
ping-leaves core true octets = refl
ping-leaves core false octets = refl

-- a change that only a stream makes, where no answer begins
outcome-leaves : (core : ConnectionState) (t : StreamOutcome) → t.answer ≡ None → (with_outcome (only_counts core) t).core ≡ core
unfolding with_outcome
outcome-leaves core t none = ap (λ (a : Option Pick). with_size_update_pending core (still_pending core.peer.size_update_pending a)) none

window-outcome-answers : (n : ℕ) (st : Stream) → (window_outcome n st).answer ≡ None
unfolding window_outcome
window-outcome-answers n st = at (n == 0) (is_above_max (st.numbers.send +ℤ pos n))
  where
    at : (zero above : Bool) → (if zero then stream_error st.id StreamIncrementZero else if above then stream_error st.id StreamWindowOverflow else outcome_without_frame (with_send st (st.numbers.send +ℤ pos n))).answer ≡ None
    at true above = refl
    at false true = refl
    at false false = refl

pub stream-window-leaves : (core : ConnectionState) (n : ℕ) (st : Stream) → LeavesCounts core (on_window core n st)
unfolding on_window
stream-window-leaves core n st = at st.kind
  where
    moved : (with_outcome (only_counts core) (window_outcome n st)).core ≡ core
    moved = outcome-leaves core (window_outcome n st) (window-outcome-answers n st)

    at : (kind : StreamState) → LeavesCounts core (run_cell ConnectionError (ignore core) (λ rule. window_rule rule core n st) (window_cell (n == 0) kind))
    at Idle = tt
    at Skipped = refl
    at BothOpen = moved
    at HalfRemote = moved
    at HalfLocal = moved
    at Ended = refl
    at PeerReset = refl
    at WeReset = refl

pub reset-leaves : (core : ConnectionState) (st : Stream) → LeavesCounts core (on_reset core st)
unfolding on_reset
reset-leaves core st = at st.kind
  where
    moved : (with_outcome (only_counts core) (reset_outcome st)).core ≡ core
    moved = outcome-leaves core (reset_outcome st) refl

    at : (kind : StreamState) → LeavesCounts core (run_cell ConnectionError (ignore core) (λ rule. reset_rule rule core st) (reset_cell kind))
    at Idle = tt
    at Skipped = refl
    at BothOpen = moved
    at HalfRemote = moved
    at HalfLocal = moved
    at Ended = refl
    at PeerReset = refl
    at WeReset = refl

-- ---- rules that leave most counts

pub window-counted : (core : ConnectionState) (n : ℕ) → IsCounted core (connection_window core n)
unfolding connection_window
window-counted core n =
    let moved : Reaction = Continues (only_counts (record core { send = core.send +ℤ pos n })) in
    by-test core (n == 0) (ConnectionError ConnectionIncrementZero) (if is_above_max (core.send +ℤ pos n) then ConnectionError ConnectionWindowOverflow else moved) tt
    (by-test core (is_above_max (core.send +ℤ pos n)) (ConnectionError ConnectionWindowOverflow) moved tt refl)

-- a change that leaves them, and then what a rule does to one stream
outcome-counted : (core : ConnectionState) (c : Change) (t : StreamOutcome) → c.core ≡ with_counts core c.core → (with_outcome c t).core ≡ with_counts core (with_outcome c t).core
unfolding with_outcome
outcome-counted core c t h = ap (λ (k : ConnectionState). with_size_update_pending k (still_pending c.core.peer.size_update_pending t.answer)) h

-- octets that are counted on the connection
counted-counted : (threshold : ℕ) (core : ConnectionState) (n : ℕ) → (counted threshold core n).core ≡ with_counts core (counted threshold core n).core
unfolding counted owed_on_connection
counted-counted threshold core n = at (given_back threshold (core.owed + n))
  where
    less : ConnectionState
    less = record core { recv = core.recv -ℤ pos n }

    at : (o : Option ℕ) → (owed_as o less (core.owed + n)).core ≡ with_counts core (owed_as o less (core.owed + n)).core
    at None = refl
    at (Some m) = refl

within-counted : (core : ConnectionState) (n : ℕ) (c : Change) → c.core ≡ with_counts core c.core → IsCounted core (if_within core n c)
within-counted core n c h = by-test core (int_lt core.recv (pos n)) (ConnectionError ConnectionWindowExceeded) (Continues c) tt h

pub data-counted : (config : Config) (core : ConnectionState) (body : ℕ) (d : ReceivedData) (st : Stream) → IsCounted core (on_data config core body d st)
unfolding on_data data_taken data_refused data_counted
data-counted config core body d st = at st.kind
  where
    change : Change
    change = counted config.credit core d.octets

    with : (t : StreamOutcome) → IsCounted core (if_within core d.octets (with_outcome change t))
    with t = within-counted core d.octets (with_outcome change t) (outcome-counted core change t (counted-counted config.credit core d.octets))

    taken : IsCounted core (data_taken config core body d st)
    taken = with (data_outcome config.credit body d st)

    refused : IsCounted core (data_refused config core d st DataAfterEndStream)
    refused = with (stream_error st.id DataAfterEndStream)

    counting : IsCounted core (data_counted config core d DataOnReset)
    counting = within-counted core d.octets (ignoring DataOnReset change) (counted-counted config.credit core d.octets)

    at : (kind : StreamState) → IsCounted core (run_cell ConnectionError (ignore core) (λ rule. data_rule rule config core body d st) (data_cell kind))
    at Idle = tt
    at Skipped = tt
    at BothOpen = taken
    at HalfRemote = refused
    at HalfLocal = taken
    at Ended = tt
    at PeerReset = tt
    at WeReset = counting

-- a field block at its end
pub block-counted : (s : State) (id : ℕ) (ends : Bool) (fields : List Field) (purpose : Purpose) → (block_ends s id ends fields purpose).core ≡ with_counts s.core (block_ends s id ends fields purpose).core
unfolding with_outcome
block-counted s id ends fields Request = refl
block-counted s id ends fields Trailers = refl
block-counted s id ends fields Closed = refl
block-counted s id ends fields TableOnly = refl
