-- The rules on one stream: what frames they send, and that the record after them fits the tally after those frames.
use Rattle.std.proofs.Common.{◌≡◌, ◌≢◌, ℕ, ◌+◌, ◌-◌, Bool, true, false, cond, ◌||◌, List, [], ◌∷◌, ◌++◌, length, drop, refl, sym, ap, subst, ◌∙◌, arith, eqb, Option, Some, None}
use Rattle.std.proofs.lemmas.Bool.{eqb-true, eqb-false, both_ways}
use Rattle.std.proofs.lemmas.Int.{ints}
use Rattle.std.proofs.lemmas.List.{nil_from_length, append-nil}
use Rattle.std.specs.Option.{is_some}
use Rattle.std.specs.Prelude.{ℤ, pos, ◌+ℤ◌}
use Rattle.h2_spec.specs.declared.causes.Cause.{Cause}
use Rattle.h2_spec.specs.declared.causes.Cause.TheVariants.{StreamWindowExceeded, StreamIncrementZero, StreamWindowOverflow, TooManyStreams, ListTooLarge}
use Rattle.h2_spec.specs.declared.connection.Config.{Config}
use Rattle.h2_spec.specs.declared.connection.ConnectionState.{ConnectionState}
use Rattle.h2_spec.specs.declared.reactions.ReceivedData.{ReceivedData}
use Rattle.h2_spec.specs.declared.reactions.BlockSummary.{BlockSummary}
use Rattle.h2_spec.specs.declared.reactions.StreamOutcome.{StreamOutcome}
use Rattle.h2_spec.specs.declared.streams.StreamState.{StreamState}
use Rattle.h2_spec.specs.declared.streams.StreamState.TheVariants.{Idle, Skipped, BothOpen, HalfRemote, HalfLocal, Ended, PeerReset, WeReset}
use Rattle.h2_spec.specs.declared.streams.Numbers.{Numbers}
use Rattle.h2_spec.specs.declared.streams.Pick.{Pick}
use Rattle.h2_spec.specs.declared.streams.Stream.{Stream}
use Rattle.h2_spec.specs.Frames.Frame.{Frame}
use Rattle.h2_spec.specs.Requests.Answer.{Entry, picked}
use Rattle.h2_spec.specs.Window.{given_back}
use Rattle.h2_spec.specs.Stream.{octets_waiting}
use Rattle.h2_spec.specs.Change.{answer_begun, outcome_without_frame, stream_error, unless_broken, stream_frames, answer_frames, with_send}
use Rattle.h2_spec.specs.Requests.StreamEnds.{server_ended, begun, with_body_remaining, with_kind, answered, answered_unless, peer_ended}
use Rattle.h2_spec.specs.Data.{returned, returned_as, taken, data_outcome}
use Rattle.h2_spec.specs.WindowUpdate.{window_outcome}
use Rattle.h2_spec.specs.Requests.Headers.{new_stream, request_outcome, trailers_outcome}
use Rattle.h2_spec.specs.Effect.{body_length, reset_outcome}
use Rattle.h2_spec_laws.specs.Grants.{StreamTally, Tally, When, IsOfBody, body_or_nothing, blank, tallied_by}
use Rattle.h2_spec_laws.proofs.grants.Tallies.{always, Leads, Leads-nil, Leads-cons}
use Rattle.h2_spec_laws.proofs.grants.Agreement.{Waits, Sends, HasEnded, Cut, FitsAs, Fits, HasBody}

-- ---- frames of one stream that are no DATA

abbrev pub OnlyOn : ℕ → List Frame → Type 0
OnlyOn j [] = Unit {0}
OnlyOn j (f ∷ fs) = (f.stream ≡ j) × (eqb f.kind 0 ≡ false) × OnlyOn j fs

abbrev pub tallied_all : StreamTally → List Frame → StreamTally
tallied_all m [] = m
tallied_all m (f ∷ fs) = tallied_all (tallied_by m f) fs

-- their order
abbrev pub InTurn : StreamTally → List Frame → Type 0
InTurn m [] = Unit {0}
InTurn m (f ∷ fs) = (When (eqb f.kind 1) ((m.headers ≡ 0) × (m.ended ≡ false)) × (m.reset ≡ false)) × InTurn (tallied_by m f) fs

-- where they're of another stream they change nothing
pub other-leads : (id j : ℕ) (t : Tally) (fs : List Frame) → eqb j id ≡ false → OnlyOn j fs → Leads id t fs t
other-leads id j t [] e o = Leads-nil id t
other-leads id j t (f ∷ fs) e o =
    let other : eqb f.stream id ≡ false = rw o.0 e in
    let same : t.sent + 0 ≡ t.sent = omega arith in
    Leads-cons id t t t f fs (rw (other, o.1) (tt, (tt, tt), (tt, tt))) (rw (other, o.1, same) refl) (other-leads id j t fs e o.2)

-- on the stream they tally it
pub own-leads : (id j : ℕ) (t : Tally) (fs : List Frame) → eqb j id ≡ true → OnlyOn j fs → InTurn t.on_stream fs → Leads id t fs (record t { on_stream = tallied_all t.on_stream fs })
own-leads id j t [] e o h = Leads-nil id t
own-leads id j t (f ∷ fs) e o h =
    let own : eqb f.stream id ≡ true = rw o.0 e in
    let same : t.sent + 0 ≡ t.sent = omega arith in
    let u : Tally = record t { on_stream = tallied_by t.on_stream f } in
    Leads-cons id t u _ f fs (rw (own, o.1) (tt, (headers (eqb f.kind 1) h.0.0, tt), (ended (eqb f.kind 1) h.0.0, h.0.1))) (rw (own, o.1, same) refl) (own-leads id j u fs e o.2 h.1)
  where
    headers : (b : Bool) → When b ((t.on_stream.headers ≡ 0) × (t.on_stream.ended ≡ false)) → When b (t.on_stream.headers ≡ 0)
    headers true p = p.0
    headers false p = tt

    ended : (b : Bool) → When b ((t.on_stream.headers ≡ 0) × (t.on_stream.ended ≡ false)) → When (b || false) (t.on_stream.ended ≡ false)
    ended true p = p.1
    ended false p = tt

-- ---- what holds of a turn

-- what a turn sends, by whether a table size update is pending
abbrev pub outcome_frames : List Entry → Bool → StreamOutcome → List Frame
outcome_frames book pending outcome = stream_frames outcome.frame ++ answer_frames book (answer_begun pending outcome.stream.id outcome.answer)

-- of any stream: it keeps the identifier, sends on it alone, and waits for no more than the body
pub record Proper (book : List Entry) (st : Stream) (outcome : StreamOutcome) : Type 0 where
  pub same_id : outcome.stream.id ≡ st.id
  pub only : (pending : Bool) → OnlyOn st.id (outcome_frames book pending outcome)
  pub has_body : HasBody book st → HasBody book outcome.stream

-- of the stream that is followed, m being its tally before the frames
pub record Good (book : List Entry) (window : ℕ) (m : StreamTally) (outcome : StreamOutcome) : Type 0 where
  pub in_turn : (pending : Bool) → InTurn m (outcome_frames book pending outcome)
  pub fits : (pending : Bool) → Fits book window outcome.stream (tallied_all m (outcome_frames book pending outcome))

-- tests are gone through without a look at what they say
either-proper : (book : List Entry) (st : Stream) (b : Bool) (x y : StreamOutcome) → Proper book st x → Proper book st y → Proper book st (cond b x y)
either-proper book st true x y p q = p
either-proper book st false x y p q = q

either-good : (book : List Entry) (window : ℕ) (m : StreamTally) (b : Bool) (x y : StreamOutcome) → Good book window m x → Good book window m y → Good book window m (cond b x y)
either-good book window m true x y p q = p
either-good book window m false x y p q = q

-- ---- a turn that changes nothing, and a stream error

quiet-proper : (book : List Entry) (st : Stream) → Proper book st (outcome_without_frame st)
quiet-proper book st = record { same_id = refl; only = λ pending. tt; has_body = λ h. h }

quiet-good : (book : List Entry) (window : ℕ) (m : StreamTally) (st : Stream) → Fits book window st m → Good book window m (outcome_without_frame st)
quiet-good book window m st f = record { in_turn = λ pending. tt; fits = λ pending. f }

pub error-proper : (book : List Entry) (st : Stream) (cause : Cause) → Proper book st (stream_error st.id cause)
unfolding octets_waiting
error-proper book st cause = record { same_id = refl; only = λ pending. (refl, refl, tt); has_body = λ h. (omega arith, tt) }

-- the stream has a request and was not reset
pub record Uncut (m : StreamTally) : Type 0 where
  pub promised : is_some m.promised ≡ true
  pub of_body : IsOfBody m
  pub reset : m.reset ≡ false

pub error-good : (book : List Entry) (window : ℕ) (m : StreamTally) (id : ℕ) (cause : Cause) → Uncut m → Good book window m (stream_error id cause)
error-good book window m id cause u = record { in_turn = λ pending. ((tt, u.reset), tt); fits = λ pending. record { promised = u.promised; of_body = u.of_body; reset = refl } }

pub Uncut-sends : (body : List ℕ) (window : ℕ) (send : ℤ) (left : Option ℕ) (m : StreamTally) → Sends body window send left m → Uncut m
Uncut-sends body window send left m f = record {
  promised = ap is_some f.promised;
  of_body = at left f.waits;
  reset = f.reset;
}
  where
    promised : body ≡ body_or_nothing m.promised
    promised = ap body_or_nothing (sym f.promised)

    not_ended : (P : Type 0) (b : Bool) → b ≡ false → When b P
    not_ended P true e = absurd (both_ways true e refl)
    not_ended P false e = tt

    at : (o : Option ℕ) → Waits body o m → IsOfBody m
    at None w = ((body_or_nothing m.promised, ap (λ xs. xs ++ body_or_nothing m.promised) w.1), not_ended (m.content ≡ body_or_nothing m.promised) m.ended f.ended)
    at (Some n) w = ((drop (length body - n) body, w.3 ∙ promised), not_ended (m.content ≡ body_or_nothing m.promised) m.ended f.ended)

-- whichever state a stream with a record is in
pub Uncut-live : (kind : StreamState) (body : List ℕ) (window : ℕ) (send : ℤ) (left : Option ℕ) (m : StreamTally) → FitsAs kind body window send left m → m.reset ≡ false → Uncut m
Uncut-live Idle body window send left m f r = absurd f
Uncut-live Skipped body window send left m f r = absurd f
Uncut-live BothOpen body window send left m f r = Uncut-sends body window send left m f
Uncut-live HalfRemote body window send left m f r = Uncut-sends body window send left m f
Uncut-live HalfLocal body window send left m f r = record { promised = f.0.promised; of_body = f.0.of_body; reset = r }
Uncut-live Ended body window send left m f r = record { promised = f.promised; of_body = f.of_body; reset = r }
Uncut-live PeerReset body window send left m f r = record { promised = f.promised; of_body = f.of_body; reset = r }
Uncut-live WeReset body window send left m f r = record { promised = f.promised; of_body = f.of_body; reset = r }

-- ---- the answer begins

answered-proper : (book : List Entry) (st : Stream) → Proper book st (answered (body_length book st) st)
unfolding answered begun server_ended octets_waiting
answered-proper book st = at (eqb (body_length book st) 0) st.kind
  where
    -- the record with another state
    in_state : StreamState → Stream
    in_state k = record st { kind = k }

    at : (b : Bool) (k : StreamState) → Proper book (in_state k) (record (answered (body_length book st) (in_state k)) { stream = cond b (server_ended (in_state k)) (with_body_remaining (in_state k) (body_length book st)) })
    at false Idle = record { same_id = refl; only = λ pending. (refl, refl, tt); has_body = λ h. (omega arith, h.1) }
    at false Skipped = record { same_id = refl; only = λ pending. (refl, refl, tt); has_body = λ h. (omega arith, h.1) }
    at false BothOpen = record { same_id = refl; only = λ pending. (refl, refl, tt); has_body = λ h. (omega arith, h.1) }
    at false HalfRemote = record { same_id = refl; only = λ pending. (refl, refl, tt); has_body = λ h. (omega arith, h.1) }
    at false HalfLocal = record { same_id = refl; only = λ pending. (refl, refl, tt); has_body = λ h. (omega arith, h.1) }
    at false Ended = record { same_id = refl; only = λ pending. (refl, refl, tt); has_body = λ h. (omega arith, h.1) }
    at false PeerReset = record { same_id = refl; only = λ pending. (refl, refl, tt); has_body = λ h. (omega arith, h.1) }
    at false WeReset = record { same_id = refl; only = λ pending. (refl, refl, tt); has_body = λ h. (omega arith, h.1) }
    at true Idle = record { same_id = refl; only = λ pending. (refl, refl, tt); has_body = λ h. h }
    at true Skipped = record { same_id = refl; only = λ pending. (refl, refl, tt); has_body = λ h. h }
    at true BothOpen = record { same_id = refl; only = λ pending. (refl, refl, tt); has_body = λ h. (omega arith, tt) }
    at true HalfRemote = record { same_id = refl; only = λ pending. (refl, refl, tt); has_body = λ h. (omega arith, tt) }
    at true HalfLocal = record { same_id = refl; only = λ pending. (refl, refl, tt); has_body = λ h. h }
    at true Ended = record { same_id = refl; only = λ pending. (refl, refl, tt); has_body = λ h. h }
    at true PeerReset = record { same_id = refl; only = λ pending. (refl, refl, tt); has_body = λ h. h }
    at true WeReset = record { same_id = refl; only = λ pending. (refl, refl, tt); has_body = λ h. h }

-- where the server's side is open
abbrev pub IsAnswerable : StreamState → Type 0
IsAnswerable BothOpen = Unit {0}
IsAnswerable HalfRemote = Unit {0}
IsAnswerable Idle = ⊥
IsAnswerable Skipped = ⊥
IsAnswerable HalfLocal = ⊥
IsAnswerable Ended = ⊥
IsAnswerable PeerReset = ⊥
IsAnswerable WeReset = ⊥

-- on a stream that nothing was sent on
answered-good : (book : List Entry) (window : ℕ) (m : StreamTally) (k : StreamState) (i : ℕ) (x : Numbers) (pick : Pick) → IsAnswerable k → Sends (picked book pick).body window x.send None m →
    let st : Stream = record { id = i; kind = k; numbers = x; pick = pick } in
    Good book window m (answered (body_length book st) st)
unfolding answered begun server_ended
answered-good book window m k i x pick may f = at k may (eqb (length body) 0) refl
  where
    body : List ℕ
    body = (picked book pick).body

    one : m.headers + 1 ≡ 1
    one = let w = f.waits.0 in omega arith

    promised : body ≡ body_or_nothing m.promised
    promised = ap body_or_nothing (sym f.promised)

    no_body : eqb (length body) 0 ≡ true → m.content ≡ body
    no_body e = f.waits.1 ∙ sym (nil_from_length body (eqb-true (length body) 0 e))

    ends : (e : eqb (length body) 0 ≡ true) → HasEnded (record m { headers = m.headers + 1; ended = m.ended || true })
    ends e = record {
      promised = ap is_some f.promised;
      of_body = (([], append-nil m.content ∙ (no_body e ∙ promised)), always (m.ended || true) (no_body e ∙ promised));
      ended = rw f.ended refl;
    }

    goes_on : eqb (length body) 0 ≡ false → Sends body window x.send (Some (length body)) (record m { headers = m.headers + 1; ended = m.ended || false })
    goes_on e = record {
      promised = f.promised;
      send_is = f.send_is;
      waits = (one, (let some : length body ≢ 0 = eqb-false (length body) 0 e in omega arith), omega arith, (let first : length body - length body ≡ 0 = omega arith in rw (first, f.waits.1) refl));
      ended = rw f.ended refl;
      reset = f.reset;
    }

    st : StreamState → Stream
    st k = record { id = i; kind = k; numbers = x; pick = pick }

    at : (k : StreamState) → IsAnswerable k → (b : Bool) → eqb (length body) 0 ≡ b → Good book window m (record (answered (length body) (st k)) { stream = cond b (server_ended (st k)) (with_body_remaining (st k) (length body)) })
    at HalfRemote o true e = record { in_turn = λ pending. (((f.waits.0, f.ended), f.reset), tt); fits = λ pending. rw e (ends e) }
    at HalfRemote o false e = record { in_turn = λ pending. (((f.waits.0, f.ended), f.reset), tt); fits = λ pending. rw e (goes_on e) }
    at BothOpen o true e = record { in_turn = λ pending. (((f.waits.0, f.ended), f.reset), tt); fits = λ pending. rw e (ends e, f.reset, refl) }
    at BothOpen o false e = record { in_turn = λ pending. (((f.waits.0, f.ended), f.reset), tt); fits = λ pending. rw e (goes_on e) }
    at Idle o b e = absurd o
    at Skipped o b e = absurd o
    at HalfLocal o b e = absurd o
    at Ended o b e = absurd o
    at PeerReset o b e = absurd o
    at WeReset o b e = absurd o

-- ---- the peer's side ends

-- what is right for the record after a change is right for the record before it
moved-proper : (book : List Entry) (st after : Stream) (outcome : StreamOutcome) → after.id ≡ st.id → (HasBody book st → HasBody book after) → Proper book after outcome → Proper book st outcome
moved-proper book st after outcome e h p = record { same_id = p.same_id ∙ e; only = λ pending. subst (λ j. OnlyOn j (outcome_frames book pending outcome)) e (p.only pending); has_body = λ b. p.has_body (h b) }

peer_ended-proper : (book : List Entry) (st : Stream) → Proper book st (peer_ended (body_length book st) st)
unfolding peer_ended octets_waiting
peer_ended-proper book st = at st.kind
  where
    after : Stream
    after = with_kind st HalfRemote

    begins : (b : Bool) → Proper book (record st { kind = BothOpen }) (answered_unless b (body_length book st) after)
    begins true = record { same_id = refl; only = λ pending. tt; has_body = λ h. h }
    begins false = moved-proper book (record st { kind = BothOpen }) after (answered (body_length book st) after) refl (λ h. h) (answered-proper book after)

    at : (k : StreamState) → Proper book (record st { kind = k }) (peer_ended (body_length book st) (record st { kind = k }))
    at Idle = quiet-proper book (record st { kind = Idle })
    at Skipped = quiet-proper book (record st { kind = Skipped })
    at BothOpen = begins (is_some st.numbers.body_remaining)
    at HalfRemote = quiet-proper book (record st { kind = HalfRemote })
    at HalfLocal = record { same_id = refl; only = λ pending. tt; has_body = λ h. (omega arith, tt) }
    at Ended = quiet-proper book (record st { kind = Ended })
    at PeerReset = quiet-proper book (record st { kind = PeerReset })
    at WeReset = quiet-proper book (record st { kind = WeReset })

peer_ended-good : (book : List Entry) (window : ℕ) (m : StreamTally) (st : Stream) → Fits book window st m → Good book window m (peer_ended (body_length book st) st)
unfolding peer_ended
peer_ended-good book window m st f = at st.kind f
  where
    begins : (o : Option ℕ) → Sends (picked book st.pick).body window st.numbers.send o m →
        let after : Stream = record st { kind = HalfRemote; numbers = record st.numbers { body_remaining = o } } in
        Good book window m (answered_unless (is_some o) (body_length book st) after)
    begins None f = answered-good book window m HalfRemote st.id (record st.numbers { body_remaining = None }) st.pick tt f
    begins (Some l) f = record { in_turn = λ pending. tt; fits = λ pending. f }

    at : (k : StreamState) → Fits book window (record st { kind = k }) m → Good book window m (peer_ended (body_length book st) (record st { kind = k }))
    at Idle f = absurd f
    at Skipped f = absurd f
    at BothOpen f = begins st.numbers.body_remaining f
    at HalfRemote f = quiet-good book window m (record st { kind = HalfRemote }) f
    at HalfLocal f = record { in_turn = λ pending. tt; fits = λ pending. f.0 }
    at Ended f = quiet-good book window m (record st { kind = Ended }) f
    at PeerReset f = quiet-good book window m (record st { kind = PeerReset }) f
    at WeReset f = quiet-good book window m (record st { kind = WeReset }) f

-- ---- a stream error where there is a cause

unless-proper : (book : List Entry) (st : Stream) (o : Option Cause) (turn : StreamOutcome) → Proper book st turn → Proper book st (unless_broken o st.id turn)
unless-proper book st (Some cause) turn h = error-proper book st cause
unless-proper book st None turn h = h

unless-good : (book : List Entry) (window : ℕ) (m : StreamTally) (id : ℕ) (o : Option Cause) (turn : StreamOutcome) → Uncut m → Good book window m turn → Good book window m (unless_broken o id turn)
unless-good book window m id (Some cause) turn u h = error-good book window m id cause u
unless-good book window m id None turn u h = h

-- ---- DATA

returned-proper : (book : List Entry) (threshold : ℕ) (st : Stream) → Proper book st (returned threshold st)
unfolding returned octets_waiting
returned-proper book threshold st = at (given_back threshold st.numbers.owed)
  where
    at : (o : Option ℕ) → Proper book st (returned_as o st)
    at (Some n) = record { same_id = refl; only = λ pending. (refl, refl, tt); has_body = λ h. h }
    at None = quiet-proper book st

returned-good : (book : List Entry) (window : ℕ) (m : StreamTally) (threshold : ℕ) (st : Stream) → Fits book window st m → m.reset ≡ false → Good book window m (returned threshold st)
unfolding returned
returned-good book window m threshold st f r = at (given_back threshold st.numbers.owed)
  where
    at : (o : Option ℕ) → Good book window m (returned_as o st)
    at (Some n) = record { in_turn = λ pending. ((tt, r), tt); fits = λ pending. f }
    at None = quiet-good book window m st f

pub data_turn-proper : (book : List Entry) (threshold : ℕ) (d : ReceivedData) (st : Stream) → Proper book st (data_outcome threshold (body_length book st) d st)
unfolding data_outcome taken octets_waiting
data_turn-proper book threshold d st =
    let after : Stream = taken st d in
    either-proper book st _ _ _ (error-proper book st StreamWindowExceeded)
    (unless-proper book st _ _
    (either-proper book st d.ends _ _
    (moved-proper book st after _ refl (λ h. h) (peer_ended-proper book after))
    (moved-proper book st after _ refl (λ h. h) (returned-proper book threshold after))))

pub data_turn-good : (book : List Entry) (window : ℕ) (m : StreamTally) (threshold : ℕ) (d : ReceivedData) (st : Stream) → Fits book window st m → m.reset ≡ false → Good book window m (data_outcome threshold (body_length book st) d st)
unfolding data_outcome taken
data_turn-good book window m threshold d st f r =
    let u : Uncut m = Uncut-live st.kind (picked book st.pick).body window st.numbers.send st.numbers.body_remaining m f r in
    either-good book window m _ _ _ (error-good book window m st.id StreamWindowExceeded u)
    (unless-good book window m st.id _ _ u
    (either-good book window m d.ends _ _ (peer_ended-good book window m (taken st d) f) (returned-good book window m threshold (taken st d) f r)))

-- ---- WINDOW_UPDATE and RST_STREAM

-- the tally with an increment
abbrev pub granted_more : ℕ → StreamTally → StreamTally
granted_more n m = record m { granted = m.granted + n }

-- the tally with RST_STREAM received
abbrev pub now_reset : StreamTally → StreamTally
now_reset m = record m { reset = true }

-- what the window is moved by does not matter where nothing more is sent
granted-sends : (body : List ℕ) (window : ℕ) (send : ℤ) (left : Option ℕ) (m : StreamTally) (i : ℕ) → Sends body window send left m → Sends body window (send +ℤ pos i) left (granted_more i m)
granted-sends body window send left m i f = record { promised = f.promised; send_is = let e = f.send_is in omega (arith, ints); waits = waits left f.waits; ended = f.ended; reset = f.reset }
  where
    waits : (o : Option ℕ) → Waits body o m → Waits body o (granted_more i m)
    waits None w = w
    waits (Some l) w = w

granted-ends : (m : StreamTally) (i : ℕ) → HasEnded m → HasEnded (granted_more i m)
granted-ends m i f = record { promised = f.promised; of_body = f.of_body; ended = f.ended }

granted-cut : (m : StreamTally) (i : ℕ) → Cut m → Cut (granted_more i m)
granted-cut m i f = record { promised = f.promised; of_body = f.of_body; reset = f.reset }

granted-fits : (kind : StreamState) (body : List ℕ) (window : ℕ) (send : ℤ) (left : Option ℕ) (m : StreamTally) (i : ℕ) → FitsAs kind body window send left m → FitsAs kind body window (send +ℤ pos i) left (granted_more i m)
granted-fits Idle body window send left m i f = f
granted-fits Skipped body window send left m i f = f
granted-fits BothOpen body window send left m i f = granted-sends body window send left m i f
granted-fits HalfRemote body window send left m i f = granted-sends body window send left m i f
granted-fits HalfLocal body window send left m i f = (granted-ends m i f.0, f.1, f.2)
granted-fits Ended body window send left m i f = granted-ends m i f
granted-fits PeerReset body window send left m i f = granted-cut m i f
granted-fits WeReset body window send left m i f = granted-cut m i f

-- the server has nothing more to send, whatever comes
abbrev pub IsOver : StreamState → Type 0
IsOver Ended = Unit {0}
IsOver PeerReset = Unit {0}
IsOver WeReset = Unit {0}
IsOver Idle = ⊥
IsOver Skipped = ⊥
IsOver BothOpen = ⊥
IsOver HalfRemote = ⊥
IsOver HalfLocal = ⊥

pub over-granted : (kind : StreamState) (body : List ℕ) (window : ℕ) (send : ℤ) (left : Option ℕ) (m : StreamTally) (i : ℕ) → IsOver kind → FitsAs kind body window send left m → FitsAs kind body window send left (granted_more i m)
over-granted Ended body window send left m i o f = granted-ends m i f
over-granted PeerReset body window send left m i o f = granted-cut m i f
over-granted WeReset body window send left m i o f = granted-cut m i f
over-granted Idle body window send left m i o f = absurd o
over-granted Skipped body window send left m i o f = absurd o
over-granted BothOpen body window send left m i o f = absurd o
over-granted HalfRemote body window send left m i o f = absurd o
over-granted HalfLocal body window send left m i o f = absurd o

pub over-reset : (kind : StreamState) (body : List ℕ) (window : ℕ) (send : ℤ) (left : Option ℕ) (m : StreamTally) → IsOver kind → FitsAs kind body window send left m → FitsAs kind body window send left (now_reset m)
over-reset Ended body window send left m o f = record { promised = f.promised; of_body = f.of_body; ended = f.ended }
over-reset PeerReset body window send left m o f = record { promised = f.promised; of_body = f.of_body; reset = refl }
over-reset WeReset body window send left m o f = record { promised = f.promised; of_body = f.of_body; reset = refl }
over-reset Idle body window send left m o f = absurd o
over-reset Skipped body window send left m o f = absurd o
over-reset BothOpen body window send left m o f = absurd o
over-reset HalfRemote body window send left m o f = absurd o
over-reset HalfLocal body window send left m o f = absurd o

pub window_turn-proper : (book : List Entry) (i : ℕ) (st : Stream) → Proper book st (window_outcome i st)
unfolding window_outcome octets_waiting
window_turn-proper book i st =
    either-proper book st _ _ _ (error-proper book st StreamIncrementZero)
    (either-proper book st _ _ _ (error-proper book st StreamWindowOverflow) (record { same_id = refl; only = λ pending. tt; has_body = λ h. h }))

pub window_turn-good : (book : List Entry) (window : ℕ) (m : StreamTally) (i : ℕ) (st : Stream) → Fits book window st m → m.reset ≡ false → Good book window (granted_more i m) (window_outcome i st)
unfolding window_outcome
window_turn-good book window m i st f r =
    let more : StreamTally = granted_more i m in
    let g : FitsAs st.kind (picked book st.pick).body window (st.numbers.send +ℤ pos i) st.numbers.body_remaining more = granted-fits st.kind (picked book st.pick).body window st.numbers.send st.numbers.body_remaining m i f in
    let u : Uncut more = Uncut-live st.kind (picked book st.pick).body window (st.numbers.send +ℤ pos i) st.numbers.body_remaining more g r in
    either-good book window more _ _ _ (error-good book window more st.id StreamIncrementZero u)
    (either-good book window more _ _ _ (error-good book window more st.id StreamWindowOverflow u) (quiet-good book window more (with_send st (st.numbers.send +ℤ pos i)) g))

pub reset_turn-proper : (book : List Entry) (st : Stream) → Proper book st (reset_outcome st)
unfolding octets_waiting
reset_turn-proper book st = record { same_id = refl; only = λ pending. tt; has_body = λ h. (omega arith, tt) }

pub reset_turn-good : (book : List Entry) (window : ℕ) (m : StreamTally) (st : Stream) → Fits book window st m → m.reset ≡ false → Good book window (now_reset m) (reset_outcome st)
reset_turn-good book window m st f r =
    let u : Uncut m = Uncut-live st.kind (picked book st.pick).body window st.numbers.send st.numbers.body_remaining m f r in
    record { in_turn = λ pending. tt; fits = λ pending. record { promised = u.promised; of_body = u.of_body; reset = refl } }

-- ---- the ends of blocks

pub trailers_turn-proper : (book : List Entry) (size : ℕ) (malformed : Option Cause) (ends : Bool) (st : Stream) → Proper book st (trailers_outcome size malformed (body_length book st) ends st)
unfolding trailers_outcome
trailers_turn-proper book size malformed ends st =
    either-proper book st _ _ _ (error-proper book st ListTooLarge)
    (unless-proper book st _ _ (peer_ended-proper book st))

pub trailers_turn-good : (book : List Entry) (window : ℕ) (m : StreamTally) (size : ℕ) (malformed : Option Cause) (ends : Bool) (st : Stream) → Fits book window st m → m.reset ≡ false →
    Good book window m (trailers_outcome size malformed (body_length book st) ends st)
unfolding trailers_outcome
trailers_turn-good book window m size malformed ends st f r =
    let u : Uncut m = Uncut-live st.kind (picked book st.pick).body window st.numbers.send st.numbers.body_remaining m f r in
    either-good book window m _ _ _ (error-good book window m st.id ListTooLarge u)
    (unless-good book window m st.id _ _ u (peer_ended-good book window m st f))

pub request_turn-proper : (book : List Entry) (config : Config) (live : ℕ) (core : ConnectionState) (id : ℕ) (ends : Bool) (f : BlockSummary) →
    Proper book (new_stream core id f) (request_outcome config live (body_length book (new_stream core id f)) (picked book f.pick).early core id ends f)
unfolding request_outcome
request_turn-proper book config live core id ends f =
    let st : Stream = new_stream core id f in
    either-proper book st _ _ _ (error-proper book st TooManyStreams)
    (either-proper book st _ _ _ (error-proper book st ListTooLarge)
    (unless-proper book st _ _
    (either-proper book st ends _ _ (peer_ended-proper book st)
    (either-proper book st (picked book f.pick).early _ _ (answered-proper book st) (quiet-proper book st)))))

-- the tally of a stream whose request has just come
abbrev pub just_asked : List ℕ → StreamTally
just_asked body = record blank { promised = Some body }

pub request_turn-good : (book : List Entry) (config : Config) (live : ℕ) (core : ConnectionState) (id : ℕ) (ends : Bool) (f : BlockSummary) →
    Good book core.peer.window (just_asked (picked book f.pick).body) (request_outcome config live (body_length book (new_stream core id f)) (picked book f.pick).early core id ends f)
unfolding request_outcome
request_turn-good book config live core id ends f =
    let st : Stream = new_stream core id f in
    let body : List ℕ = (picked book f.pick).body in
    let m : StreamTally = just_asked body in
    let w : ℕ = core.peer.window in
    let g : Sends body w (pos w) None m = record { promised = refl; send_is = omega (arith, ints); waits = (refl, refl); ended = refl; reset = refl } in
    let u : Uncut m = Uncut-sends body w (pos w) None m g in
    either-good book w m _ _ _ (error-good book w m id TooManyStreams u)
    (either-good book w m _ _ _ (error-good book w m id ListTooLarge u)
    (unless-good book w m id _ _ u
    (either-good book w m ends _ _ (peer_ended-good book w m st g)
    (either-good book w m (picked book f.pick).early _ _ (answered-good book w m BothOpen id st.numbers f.pick tt g) (quiet-good book w m st g)))))
