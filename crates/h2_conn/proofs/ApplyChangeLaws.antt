-- A change is made: what it results in, and what is known after it.
use Rattle.std.proofs.Common.{◌≡◌, ℕ, ◌-◌, ◌++◌, List, [], refl, sym, ap, subst, ◌∙◌, arith, append-nil, ℤ, pos, ◌-ℤ◌}
use Rattle.std.specs.Prelude.{Ok, Option, Result, Some, None}
use Rattle.h2_spec.specs.declared.connection.ConnectionState.{ConnectionState}
use Rattle.h2_spec.specs.declared.connection.Phase.{Phase}
use Rattle.h2_spec.specs.declared.connection.Phase.TheVariants as phase
use Rattle.h2_spec.specs.declared.flow.LocalSettings.{LocalSettings}
use Rattle.h2_spec.specs.declared.connection.Purpose.{Purpose}
use Rattle.h2_spec.specs.declared.connection.Purpose.TheVariants.{Request, Trailers, Closed, TableOnly}
use Rattle.h2_spec.specs.declared.reactions.Change.{Change}
use Rattle.h2_spec.specs.declared.reactions.Reaction.{Reaction}
use Rattle.h2_spec.specs.declared.reactions.Reaction.TheVariants.{Continues}
use Rattle.h2_spec.specs.declared.reactions.Verdict.{Verdict}
use Rattle.h2_spec.specs.declared.streams.Stream.{Stream}
use Rattle.h2_spec.specs.declared.streams.StreamState.TheVariants.{WeReset}
use Rattle.h2_spec.specs.Effect.{effect_verdict}
use Rattle.h2_spec.specs.Requests.Answer.{Entry}
use Rattle.h2_spec.specs.Requests.Headers.{Makes, makes}
use Rattle.h2_spec.specs.Change.{Step, frames_of, made, updated_streams}
use Rattle.h2_spec.specs.Frames.Frame.{Frame, frames_octets}
use Rattle.h2_spec.specs.SendPending.{all_after_sending, send_pending, sent_frames, window_left}
use Rattle.h2_spec.specs.State.{Decoding, OpenBlock, State}
use Rattle.h2_spec.specs.Stream.{Records, is_peer_open}
use Rattle.h2_spec.specs.Trace.{then_sent}
use Rattle.h2_streams.specs.Put.{can_become}
use Rattle.h2_conn.specs.Blocks.{IsDecodedAt, IsOpenAt, IsOpenFor, IsStopped}
use Rattle.h2_spec.specs.Does.{AreShort, Does, Settles}
use Rattle.h2_conn_send.specs.Sending.{NoneSends, all_frames, core_after, open_window, open_window_as, records_after, sent_count, streams_after}
use Rattle.h2_conn_rules.specs.Sound.{IsSoundChange, IsSoundState, in_force, updated_records}
use Rattle.h2_conn_send.proofs.AloneLaws.{after-none, left-none, none-spent, sent-none}
use Rattle.h2_conn_send.proofs.KindLaws.{sent-kinds}
use Rattle.h2_conn_send.proofs.SentLaws.{sent-sound}
use Rattle.h2_conn_rules.proofs.SoundLaws.{changed-sound, same-own, updated-streams}

-- what is sound for the records of a state is sound for those that it holds
pub inside-sound : (book : List Entry) (core : ConnectionState) (r : Records) (c : Change) → IsSoundState book core r →
    IsSoundChange book (record { streams = r.streams; last = core.last }) (in_force core) c → IsSoundChange book r (in_force core) c
inside-sound book core r c state sound = subst (λ (l : ℕ). IsSoundChange book (record { streams = r.streams; last = l }) (in_force core) c) (sym state.last) sound

-- of a block that is decoded no more nothing has to be known
pub stopped-open : (r : Records) (b : Option OpenBlock) → IsStopped b → IsOpenFor r b
stopped-open r None h = tt
stopped-open r (Some b) h = rw h tt

-- the stream of an open block stays as the block's end needs it
pub open-after-sending : (r : Records) (window : ℕ) (block : Option OpenBlock) → IsOpenFor r block → IsOpenFor (record r { streams = all_after_sending window r.streams }) block
open-after-sending r window None h = tt
open-after-sending r window (Some b) h = by_decoding b.decoding h
  where
    id : ℕ
    id = b.shown.stream

    by_purpose : (purpose : Purpose) → IsOpenAt r id purpose → IsOpenAt (record r { streams = all_after_sending window r.streams }) id purpose
    by_purpose Request g = g
    by_purpose Trailers g = sent-kinds is_peer_open refl refl r.last id window r.streams ∙ g
    by_purpose Closed g = sent-kinds (λ k. can_become k WeReset) refl refl r.last id window r.streams ∙ g
    by_purpose TableOnly g = tt

    by_decoding : (d : Option Decoding) → IsDecodedAt r id d → IsDecodedAt (record r { streams = all_after_sending window r.streams }) id d
    by_decoding None g = tt
    by_decoding (Some d) g = by_purpose d.purpose g

-- what is known of an open block is known of it after sending
pub open-after : (core : ConnectionState) (r : Records) (b : Option OpenBlock) → IsOpenFor r b → IsOpenFor (records_after core r) b
open-after core r b h = open-after-sending r (open_window core) b h

no-count : (n : ℕ) → 0 - n ≡ 0
no-count n = omega arith

not-less : (z : ℤ) → z -ℤ pos 0 ≡ z
not-less z = grind arith

-- a change, and then the pending output is sent, by the parts of the state
pub made-then : (s : State) (c : Change) → then_sent c.core.phase (made s c) ≡
    record { state = record s { core = core_after c.core (updated_streams c.record_update s.streams); streams = streams_after c.core (updated_streams c.record_update s.streams) }; sent = all_frames s.book c s.streams }
unfolding send_pending
made-then s c = at c.core.phase
  where
    now : List Stream
    now = updated_streams c.record_update s.streams

    counted : ℕ → ConnectionState
    counted n = record c.core { send = c.core.send -ℤ pos n }

    parts : ConnectionState → List Stream → List Frame → Step
    parts core streams frames = record { state = record s { core = core; streams = streams }; sent = frames_of s.book c ++ frames }

    sending : ℕ → Step
    sending w = parts (counted (w - window_left w now)) (all_after_sending w now) (sent_frames s.book c.core.peer.frame w now)

    nothing : counted (0 - window_left 0 now) ≡ c.core
    nothing = ap counted (no-count (window_left 0 now)) ∙ ap (λ (z : ℤ). let k : ConnectionState = record c.core { send = z } in k) (not-less c.core.send)

    at : (ph : Phase) → then_sent ph (made s c) ≡ sending (open_window_as ph c.core)
    at phase.Preface = refl
    at phase.Settings = refl
    at phase.Running = refl
    at (phase.Ended code) =
        ap (λ (fs : List Frame). let t : Step = record { state = record s { core = c.core; streams = now }; sent = fs } in t) (sym (append-nil (frames_of s.book c)))
        ∙ ap (λ (k : ConnectionState). parts k now []) (sym nothing)
        ∙ ap (λ (ss : List Stream). parts (counted (0 - window_left 0 now)) ss []) (sym (after-none 0 now (none-spent now)))
        ∙ ap (λ (fs : List Frame). parts (counted (0 - window_left 0 now)) (all_after_sending 0 now) fs) (sym (sent-none s.book c.core.peer.frame 0 now (none-spent now)))

-- the counts with that many octets taken
pub counts-sent : (core : ConnectionState) (streams : List Stream) (n : ℕ) (now : ConnectionState) → n ≡ sent_count core streams → now ≡ record core { send = core.send -ℤ pos n } → now ≡ core_after core streams
counts-sent core streams n now count is = is ∙ ap (λ (k : ℕ). let x : ConnectionState = record core { send = core.send -ℤ pos k } in x) count

-- what a state keeps that makes a change, of which octets are sent: its records are sound for its counts, the limit of the table is the
-- server's own, and the open block's stream is as the block's end needs it
pub keeps : (book : List Entry) (core now : ConnectionState) (r after : Records) (c : Change) (block : Option OpenBlock) (limit sent : ℕ) →
    IsSoundState book core r → limit ≡ core.own.table → IsSoundChange book (record { streams = r.streams; last = core.last }) (in_force core) c →
    IsOpenFor (updated_records c.record_update (record { streams = r.streams; last = core.last })) block → now ≡ record c.core { send = c.core.send -ℤ pos sent } → after ≡ records_after c.core (updated_records c.record_update r) →
    IsSoundState book now after × (limit ≡ now.own.table) × IsOpenFor after block
keeps book core now r after c block limit sent state own change opened counts records =
    let sound = inside-sound book core r c state change in
    let updated = updated_records c.record_update r in
    let whole = sent-sound book c.core updated (open_window c.core) sent (changed-sound book core r c state sound) in
    let held = subst (λ (l : ℕ). IsOpenFor (updated_records c.record_update (record { streams = r.streams; last = l })) block) (sym state.last) opened in
    let same = same-own book r (in_force core) c.core c.record_update sound.1 in (
      subst (λ (x : Records). IsSoundState book now x) (sym records) (subst (λ (k : ConnectionState). IsSoundState book k (records_after c.core updated)) (sym counts) whole),
      own ∙ sym (ap (λ (o : LocalSettings). o.table) same) ∙ sym (ap (λ (k : ConnectionState). k.own.table) counts),
      subst (λ (x : Records). IsOpenFor x block) (sym records) (open-after c.core updated block held),
    )

-- what is done is what the definitions say
pub did : (s : State) (c : Change) (r now : Records) (core : ConnectionState) (out out' : List ℕ) → s.streams ≡ r.streams → core ≡ core_after c.core (updated_streams c.record_update s.streams) →
    now ≡ records_after c.core (updated_records c.record_update r) → out' ≡ out ++ frames_octets (all_frames s.book c s.streams) → AreShort (all_frames s.book c s.streams) →
    Does (then_sent c.core.phase (made s c)) out (record s { core = core; streams = now.streams }) out'
did s c r now core out out' held counts sending sent short =
    let streams : (updated_records c.record_update r).streams ≡ updated_streams c.record_update s.streams = updated-streams c.record_update r ∙ ap (updated_streams c.record_update) (sym held) in
    let after = ap (λ (x : Records). x.streams) sending ∙ ap (streams_after c.core) streams in
    subst (λ (step : Step). Does step out (record s { core = core; streams = now.streams }) out') (sym (made-then s c))
    (record {
      state = ap (λ (k : ConnectionState). record s { core = k; streams = now.streams }) counts ∙ ap (λ (ss : List Stream). record s { core = core_after c.core (updated_streams c.record_update s.streams); streams = ss }) after;
      sent = sent;
      short = short;
    })

-- a change without a frame, where no stream can send after it: nothing is sent
pub did-quietly : (s : State) (c : Change) (out : List ℕ) → frames_of s.book c ≡ [] → NoneSends (open_window c.core) (updated_streams c.record_update s.streams) →
    Does (then_sent c.core.phase (made s c)) out (record s { core = c.core; streams = updated_streams c.record_update s.streams }) out
did-quietly s c out silent none =
    subst (λ (step : Step). Does step out (record s { core = c.core; streams = now }) out) (sym (made-then s c))
    (record {
      state = ap (λ (k : ConnectionState). record s { core = k; streams = now }) (sym count) ∙ ap (λ (ss : List Stream). record s { core = core_after c.core now; streams = ss }) (sym (after-none window now none));
      sent = sym (ap (λ (fs : List Frame). out ++ frames_octets fs) nothing ∙ append-nil out);
      short = subst AreShort (sym nothing) tt;
    })
  where
    now : List Stream
    now = updated_streams c.record_update s.streams

    window : ℕ
    window = open_window c.core

    nothing : all_frames s.book c s.streams ≡ []
    nothing = ap (λ (fs : List Frame). fs ++ sent_frames s.book c.core.peer.frame window now) silent ∙ sent-none s.book c.core.peer.frame window now none

    counted : ℕ → ConnectionState
    counted n = record c.core { send = c.core.send -ℤ pos n }

    count : core_after c.core now ≡ c.core
    count =
        let left = left-none window now none in
        ap counted (let zero : window - window_left window now ≡ 0 = omega (arith, left) in zero) ∙ ap (λ (z : ℤ). let k : ConnectionState = record c.core { send = z } in k) (not-less c.core.send)

module _ {E : Type 0} where
  -- and the call answers how the item is judged
  pub settles-quietly : (s now : State) (c : Change) (reaction : Reaction) (verdict : Verdict) (out : List ℕ) → reaction ≡ Continues c → verdict ≡ effect_verdict (Makes s c) → frames_of s.book c ≡ [] →
      NoneSends (open_window c.core) (updated_streams c.record_update s.streams) → now ≡ record s { core = c.core; streams = updated_streams c.record_update s.streams } →
      (let result : Result Verdict E = Ok verdict in Settles s out (makes s reaction) result now out)
  settles-quietly s now c reaction verdict out is judged silent none after =
      let result : Result Verdict E = Ok verdict in
      subst (λ (r : Reaction). Settles s out (makes s r) result now out) (sym is)
      (record { ok = subst (λ (t : State). Does (then_sent c.core.phase (made s c)) out t out) (sym after) (did-quietly s c out silent none); verdict = judged; err = tt })
