-- Rules that change one record, where nothing is sent: a send window rises, or the peer resets a stream. What they change, and what
-- is known of the records then.
use Rattle.std.proofs.Common.{◌≡◌, ℕ, Bool, List, true, false, cond, refl, ap, sym, subst, ◌∙◌, pos, ◌+ℤ◌}
use Rattle.std.specs.Prelude.{◌==◌}
use Rattle.std.proofs.lemmas.Bool.{false≢true, not-true}
use Rattle.h2_spec.specs.declared.causes.Cause.TheVariants.{StreamIncrementZero, StreamWindowOverflow}
use Rattle.h2_spec.specs.declared.connection.ConnectionState.{ConnectionState}
use Rattle.h2_spec.specs.declared.reactions.Change.{Change}
use Rattle.h2_spec.specs.declared.reactions.Reaction.TheVariants.{ConnectionError, Continues}
use Rattle.h2_spec.specs.declared.reactions.StreamOutcome.{StreamOutcome}
use Rattle.h2_spec.specs.declared.streams.Stream.{Stream}
use Rattle.h2_spec.specs.declared.streams.StreamState.{StreamState}
use Rattle.h2_spec.specs.declared.streams.StreamState.TheVariants.{Idle, Skipped, BothOpen, HalfRemote, HalfLocal, Ended, PeerReset, WeReset}
use Rattle.h2_spec.specs.Change.{only_counts, outcome_without_frame, stream_error, with_outcome}
use Rattle.h2_spec.specs.Effect.{ignore, on_reset, on_window, reset_rule, window_rule}
use Rattle.h2_spec.specs.ReactionTable.{Cell, MoveWindow, PeerResets, ResetRule, Rule, WindowRule, reset_cell, run_cell, window_cell}
use Rattle.h2_spec.specs.Requests.Answer.{Entry}
use Rattle.h2_spec.specs.State.{State}
use Rattle.h2_spec.specs.Stream.{Records, changed, is_live, octets_waiting, put, reset_as, stream_at}
use Rattle.h2_spec.specs.Window.{is_above_max}
use Rattle.h2_spec.specs.WindowUpdate.{window_outcome}
use Rattle.h2_spec.proofs.Computed.{and-left, and-right}
use Rattle.h2_conn_rules.specs.Plain.{only_raises}
use Rattle.h2_conn_rules.specs.Sound.{HasBody, IsSoundChange, IsSoundState, IsSoundStream, in_force, is_recorded}
use Rattle.h2_conn_rules.proofs.SoundLaws.{changed-sound, found-sound, live-put, live-recorded, not-live-body, not-live-sound}
use Rattle.h2_conn_rules.proofs.RaisedLaws.{raised-body, raised-sound}
use Rattle.h2_streams.specs.Raised.{raised}
use Rattle.h2_streams.proofs.PlaceLaws.{live-id}

-- what changes where this record is put
abbrev pub puts : ConnectionState → Stream → Change
puts core st = with_outcome (only_counts core) (outcome_without_frame st)

-- ---- a send window rises

-- the stream is live
pub raises-live : (n : ℕ) (st : Stream) → only_raises n st ≡ true → is_live st.kind ≡ true
raises-live n st h = and-left _ _ (and-left _ _ h)

live-moves : (zero : Bool) (kind : StreamState) → is_live kind ≡ true → window_cell zero kind ≡ Rule MoveWindow
live-moves zero Idle h = absurd (false≢true h)
live-moves zero Skipped h = absurd (false≢true h)
live-moves zero BothOpen h = refl
live-moves zero HalfRemote h = refl
live-moves zero HalfLocal h = refl
live-moves zero Ended h = absurd (false≢true h)
live-moves zero PeerReset h = absurd (false≢true h)
live-moves zero WeReset h = absurd (false≢true h)

-- and the window does not pass the largest one
fits : (n : ℕ) (st : Stream) → only_raises n st ≡ true → is_above_max (st.numbers.send +ℤ pos n) ≡ false
fits n st h = not-true _ (and-right _ _ h)

-- it follows the rule of WINDOW_UPDATE
pub raises-rule : (core : ConnectionState) (n : ℕ) (st : Stream) → only_raises n st ≡ true → on_window core n st ≡ Continues (puts core (raised n st))
unfolding on_window window_outcome
raises-rule core n st h =
    ap (λ (cell : Cell WindowRule). run_cell ConnectionError (ignore core) (λ rule. window_rule rule core n st) cell) (live-moves (n == 0) st.kind (raises-live n st h))
    ∙ ap (λ (o : StreamOutcome). Continues (with_outcome (only_counts core) o))
    (ap (λ (t : Bool). cond t (stream_error st.id StreamIncrementZero) (cond (is_above_max (st.numbers.send +ℤ pos n)) (stream_error st.id StreamWindowOverflow) (outcome_without_frame (raised n st)))) (not-true _ (and-right _ _ (and-left _ _ h)))
    ∙ ap (λ (t : Bool). cond t (stream_error st.id StreamWindowOverflow) (outcome_without_frame (raised n st))) (fits n st h))

-- no more waits than before
pub raised-waits : (n : ℕ) (st : Stream) → octets_waiting (raised n st) ≡ octets_waiting st
unfolding octets_waiting
raised-waits n st = refl

-- ---- the peer resets a stream

live-resets : (kind : StreamState) → is_live kind ≡ true → reset_cell kind ≡ Rule PeerResets
live-resets Idle h = absurd (false≢true h)
live-resets Skipped h = absurd (false≢true h)
live-resets BothOpen h = refl
live-resets HalfRemote h = refl
live-resets HalfLocal h = refl
live-resets Ended h = absurd (false≢true h)
live-resets PeerReset h = absurd (false≢true h)
live-resets WeReset h = absurd (false≢true h)

-- it follows the rule of RST_STREAM
pub resets-rule : (core : ConnectionState) (st : Stream) → is_live st.kind ≡ true → on_reset core st ≡ Continues (puts core (reset_as true st))
unfolding on_reset
resets-rule core st live = ap (λ (cell : Cell ResetRule). run_cell ConnectionError (ignore core) (λ rule. reset_rule rule core st) cell) (live-resets st.kind live)

-- nothing of it waits any more
pub reset-waits : (st : Stream) → octets_waiting (reset_as true st) ≡ 0
unfolding octets_waiting
reset-waits st = refl

-- ---- the records then

-- a sound record in the place of a live stream's leaves the state sound
module _ (book : List Entry) (core : ConnectionState) (r : Records) (id : ℕ) (state : IsSoundState book core r) where
  abbrev there : Stream
  there = stream_at r.last r.streams id

  put-state : (now : Stream) → is_live there.kind ≡ true → now.id ≡ there.id → IsSoundStream (in_force core) now → HasBody book now → is_recorded now.kind ≡ true → IsSoundState book core (record r { streams = put now r.streams })
  unfolding with_outcome
  put-state now live same sound has recorded =
      let found : there ≡ stream_at r.last r.streams there.id = ap (stream_at r.last r.streams) (sym (live-id r.last r.streams id live)) in
      let placed = live-put r there now found live same in
      let change : IsSoundChange book r (in_force core) (puts core now) = (state.counts, (sound, has, refl, placed.0, sym state.last ∙ placed.1, recorded)) in
      subst (λ (l : ℕ). IsSoundState book core (record { streams = put now r.streams; last = l })) (sym placed.1) (changed-sound book core r (puts core now) state change)

  pub raised-state : (n : ℕ) → only_raises n there ≡ true → IsSoundState book core (changed id (raised n) r)
  raised-state n h =
      let live = raises-live n there h in
      let both = found-sound book (in_force core) r.last id r.streams state.records in
      put-state (raised n there) live refl (raised-sound (in_force core) n there (and-right _ _ h) both.0) (raised-body book n there both.1) (live-recorded there.kind live)

  pub reset-state : is_live there.kind ≡ true → IsSoundState book core (changed id (reset_as true) r)
  reset-state live = put-state (reset_as true there) live refl (not-live-sound (in_force core) there.id PeerReset refl) (not-live-body book there.id PeerReset) refl

-- ---- the state then

-- where one stream's record of a state has changed
pub changed-view : (inside now : State) (r : Records) (l id : ℕ) (f : Stream → Stream) → r ≡ changed id f (record { streams = inside.streams; last = l }) → l ≡ inside.core.last → inside ≡ now →
    record inside { streams = r.streams } ≡ record now { streams = put (f (stream_at now.core.last now.streams id)) now.streams }
changed-view inside now r l id f is last same =
    ap (λ (x : Records). record inside { streams = x.streams }) is
    ∙ ap (λ (k : ℕ). record inside { streams = put (f (stream_at k inside.streams id)) inside.streams }) last
    ∙ ap (λ (s : State). record s { streams = put (f (stream_at s.core.last s.streams id)) s.streams }) same
