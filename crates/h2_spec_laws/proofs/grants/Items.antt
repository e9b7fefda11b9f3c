-- Each item keeps the tests: its checks, and the rule of its type and of its stream's state.
use Rattle.std.proofs.Common.{◌≡◌, ℕ, ◌+◌, ◌%◌, ◌≤◌, Bool, true, false, cond, ◌&&◌, List, refl, sym, subst, eqb, Option, Some, None, Result, Ok, Err}
use Rattle.std.proofs.lemmas.Bool.{eqb-true, and_parts, not-false}
use Rattle.std.specs.Option.{is_some}
use Rattle.h2_spec.specs.declared.causes.Cause.{Cause}
use Rattle.h2_spec.specs.declared.causes.Cause.TheVariants.{BlockInterrupted, HeadersOnEven}
use Rattle.h2_spec.specs.declared.connection.Phase.{Phase}
use Rattle.h2_spec.specs.declared.connection.Phase.TheVariants as phase
use Rattle.h2_spec.specs.declared.connection.Purpose.{Purpose}
use Rattle.h2_spec.specs.declared.connection.Purpose.TheVariants.{Request, Trailers, Closed, TableOnly}
use Rattle.h2_spec.specs.declared.frames.Head.{Head}
use Rattle.h2_spec.specs.declared.reactions.ConnectionFrame.TheVariants.{NoConnectionFrame, PingAck}
use Rattle.h2_spec.specs.declared.reactions.Reaction.TheVariants.{Continues}
use Rattle.h2_spec.specs.declared.streams.StreamState.{StreamState}
use Rattle.h2_spec.specs.declared.streams.StreamState.TheVariants.{Idle, Skipped, BothOpen, HalfRemote, HalfLocal, Ended, PeerReset, WeReset}
use Rattle.h2_spec.specs.declared.streams.Stream.{Stream}
use Rattle.h2_spec.specs.Frames.FrameType.{END_HEADERS, ACK, frame_type, has}
use Rattle.h2_spec.specs.Frames.Frame.{Item, Preface, BadPreface, WholeFrame, Oversize}
use Rattle.h2_spec.specs.Frames.Payload.{HeadersPart, Part, OfData, OfHeaders, OfPriority, OfRstStream, OfSettings, OfSettingsAck, OfPushPromise, OfPing, OfGoaway, OfWindowUpdate, OfContinuation, OfUnknown, part_as, part_of}
use Rattle.h2_spec.specs.Requests.Answer.{Entry, picked}
use Rattle.h2_spec.specs.Stream.{record_of, stream_at}
use Rattle.h2_spec.specs.State.{State, OpenBlock, Decoding}
use Rattle.h2_spec.specs.declared.ignored.Ignored.TheVariants.{Priority, UnknownType, PingAcknowledgement}
use Rattle.h2_spec.specs.Change.{only_counts}
use Rattle.h2_spec.specs.Causes.Cause.{first_of}
use Rattle.h2_spec.specs.Checks.{interrupts, early, misplaced, refusal}
use Rattle.h2_spec.specs.ReactionTable.{Rule, Error, headers_cell}
use Rattle.h2_spec.specs.WindowUpdate.{connection_window}
use Rattle.h2_spec.specs.Requests.Headers.{makes, fresh_block, fresh_decoding, block_opens, continued}
use Rattle.h2_spec.specs.Effect.{ignore, incoming, on_headers, on_window, frame_effect, part_effect, checked_effect, block_stream, item_effect}
use Rattle.h2_spec_laws.specs.Grants.{Tally, When, with_tally_on, with_fields, with_fragment, fields_at_end, received_part, received_frame, received}
use Rattle.h2_spec_laws.proofs.grants.Tallies.{always}
use Rattle.h2_spec_laws.proofs.grants.Agreement.{FitsAs, IsRecorded, IsBlock, IsDecoding, FitsBlock, Agreement}
use Rattle.h2_spec_laws.proofs.grants.Turns.{granted_more, Uncut-live}
use Rattle.h2_spec_laws.proofs.grants.Records.{at-found, at-idle, found-fits}
use Rattle.h2_spec_laws.proofs.grants.Rules.{Kept, because, either-kept, stays, IsLive, live-reset, data-kept, reset-kept, window-kept, connection-kept}
use Rattle.h2_spec_laws.proofs.grants.SettingsRule.{settings-kept, acknowledged-kept}
use Rattle.h2_spec_laws.proofs.grants.Blocks.{fragment-kept}

module _ (id : ℕ) (s : State) (t : Tally) (h : Head) (p : List ℕ) (pos_id : 1 ≤ id) (x : Agreement s.book id s t) (none : s.block ≡ None) where
  abbrev st : Stream
  st = stream_at s.core.last s.streams h.stream

  -- ---- HEADERS

  abbrev headers : HeadersPart → Tally
  headers part = with_fragment s.book id s t h (Some (fresh_decoding s Request)) part.fragment

  opens : (part : HeadersPart) (purpose : Purpose) → IsBlock id s.core.last s.streams h.stream purpose t.on_stream → Kept s.book id (headers part) (block_opens s purpose h part)
  opens part purpose of =
      subst (λ fs. Kept s.book id (with_tally_on id h.stream t (with_fields s.book t.on_stream fs)) (block_opens s purpose h part)) (same (has h.flags END_HEADERS))
      (fragment-kept id s t (fresh_block h) (fresh_decoding s purpose) part.fragment (has h.flags END_HEADERS) pos_id x of)
    where
      same : (ends : Bool) → fields_at_end s (Some (fresh_decoding s purpose)) part.fragment ends ≡ fields_at_end s (Some (fresh_decoding s Request)) part.fragment ends
      same true = refl
      same false = refl

  -- what the record of the stream that is followed says
  own : (P : Type 0) (k : StreamState) → IsRecorded k → st.kind ≡ k → (FitsAs k (picked s.book st.pick).body t.window st.numbers.send st.numbers.body_remaining t.on_stream → P) → When (eqb h.stream id) P
  own P k r e f = at (eqb h.stream id) refl
    where
      at : (b : Bool) → eqb h.stream id ≡ b → When b P
      at false g = tt
      at true g =
          let found : record_of s.streams id ≡ Some st = subst (λ i. record_of s.streams i ≡ Some st) (eqb-true h.stream id g) (at-found s.core.last s.streams h.stream (subst IsRecorded (sym e) r)) in
          f (subst (λ k. FitsAs k (picked s.book st.pick).body t.window st.numbers.send st.numbers.body_remaining t.on_stream) e (found-fits s.book t.window id s.streams t.on_stream st found x.agreed))

  live : (k : StreamState) → IsLive k → IsRecorded k → st.kind ≡ k → When (eqb h.stream id) ((is_some t.on_stream.promised ≡ true) × (t.on_stream.reset ≡ false))
  live k l r e = own ((is_some t.on_stream.promised ≡ true) × (t.on_stream.reset ≡ false)) k r e
      (λ f.
      let reset : t.on_stream.reset ≡ false = live-reset k (picked s.book st.pick).body t.window st.numbers.send st.numbers.body_remaining t.on_stream l f in
      ((Uncut-live k (picked s.book st.pick).body t.window st.numbers.send st.numbers.body_remaining t.on_stream f reset).promised, reset))

  headers-kept : (part : HeadersPart) → Kept s.book id (headers part) (on_headers s h part (headers_cell h.stream st.kind))
  headers-kept part = at st.kind refl
    where
      first : (b : Bool) → eqb (h.stream % 2) 1 ≡ b → st.kind ≡ Idle → Kept s.book id (headers part) (on_headers s h part (cond b (Rule Request) (Error HeadersOnEven)))
      first true odd e = opens part Request (at-idle s.book s.core.last s.streams h.stream x.bodies e odd, always (eqb h.stream id) tt)
      first false odd e = tt

      at : (k : StreamState) → st.kind ≡ k → Kept s.book id (headers part) (on_headers s h part (headers_cell h.stream k))
      at Idle e = first (eqb (h.stream % 2) 1) refl e
      at Skipped e = tt
      at BothOpen e = opens part Trailers (subst IsRecorded (sym e) tt, live BothOpen tt tt e)
      at HalfLocal e = opens part Trailers (subst IsRecorded (sym e) tt, live HalfLocal tt tt e)
      at HalfRemote e = opens part Closed (subst IsRecorded (sym e) tt, live HalfRemote tt tt e)
      at Ended e = tt
      at PeerReset e = tt
      at WeReset e = opens part TableOnly (tt, own (is_some t.on_stream.promised ≡ true) WeReset tt e (λ f. f.promised))

  -- ---- each type of frame, where no block is open

  part-kept : (part : Part) → Kept s.book id (received_part s.book id s t h part) (frame_effect s h p part)
  part-kept (OfData part) = data-kept id s t h.stream (incoming h p part) pos_id x none
  part-kept (OfHeaders part) = headers-kept part
  part-kept OfPriority = because s.book id t s (only_counts s.core) (Some Priority) (stays s.book id t s s.core NoConnectionFrame pos_id x)
  part-kept (OfRstStream code) = reset-kept id s t h.stream pos_id x none
  part-kept (OfSettings pairs) = settings-kept id s t pairs pos_id x none
  part-kept OfSettingsAck = acknowledged-kept id s t pos_id x none
  part-kept OfPushPromise = tt
  part-kept (OfPing octets) =
      either-kept s.book id t s (has h.flags ACK) (ignore s.core PingAcknowledgement) (Continues (record (only_counts s.core) { connection_frame = PingAck octets }))
      (because s.book id t s (only_counts s.core) (Some PingAcknowledgement) (stays s.book id t s s.core NoConnectionFrame pos_id x)) (stays s.book id t s s.core (PingAck octets) pos_id x)
  part-kept (OfGoaway last code) = stays s.book id t s (record s.core { goaway = Some (last, code) }) NoConnectionFrame pos_id x
  part-kept (OfWindowUpdate n) = at (eqb h.stream 0)
    where
      at : (b : Bool) → Kept s.book id (cond b (record t { granted = t.granted + n }) (with_tally_on id h.stream t (granted_more n t.on_stream))) (makes s (cond b (connection_window s.core n) (on_window s.core n st)))
      at true = connection-kept id s t n pos_id x
      at false = window-kept id s t h.stream pos_id x none n
  part-kept (OfContinuation fragment) = rw none tt
  part-kept OfUnknown = because s.book id t s (only_counts s.core) (Some UnknownType) (stays s.book id t s s.core NoConnectionFrame pos_id x)

-- ---- a frame that does not interrupt a block

not-interrupting : (o : Option ℕ) (f : Phase) (h : Head) → refusal o f h ≡ None → interrupts o h ≡ false
unfolding refusal
not-interrupting o f h e = at (interrupts o h) (first_of (early f h) (misplaced h)) e
  where
    at : (a : Bool) (o : Option Cause) → cond a (Some BlockInterrupted) o ≡ None → a ≡ false
    at true o e = absurd (cc)
    at false o e = refl

-- inside a block it is a CONTINUATION of its stream
continues : (j : ℕ) (h : Head) → interrupts (Some j) h ≡ false → (h.kind ≡ 9) × (h.stream ≡ j)
unfolding interrupts
continues j h e =
    let both = and_parts (eqb h.kind 9) (eqb h.stream j) (not-false (eqb h.kind 9 && eqb h.stream j) e) in
    (eqb-true h.kind 9 both.0, eqb-true h.stream j both.1)

continuation-part : (h : Head) (p : List ℕ) → h.kind ≡ 9 → part_of h p ≡ Ok (OfContinuation p)
unfolding part_as
continuation-part h p e = subst (λ k. part_as (frame_type k) h.flags p ≡ Ok (OfContinuation p)) (sym e) refl

frame-kept : (id : ℕ) (s : State) (t : Tally) (h : Head) (p : List ℕ) → 1 ≤ id → Agreement s.book id s t → interrupts (block_stream s.block) h ≡ false → Kept s.book id (received_frame s.book id s t h (part_of h p)) (part_effect s h p (part_of h p))
frame-kept id s t h p pos_id x e = at s.block refl e
  where
    outside : (r : Result Part Cause) → s.block ≡ None → Kept s.book id (received_frame s.book id s t h r) (part_effect s h p r)
    outside (Ok part) g = part-kept id s t h p pos_id x g part
    outside (Err cause) g = tt

    inside : (b : OpenBlock) → s.block ≡ Some b → h.stream ≡ b.shown.stream → Kept s.book id (received_part s.book id s t h (OfContinuation p)) (frame_effect s h p (OfContinuation p))
    inside b g same = rw (g, same) (decoding b.decoding agreed)
      where
        agreed : FitsBlock id s.core.last s.streams (Some b) t.on_stream
        agreed = subst (λ o. FitsBlock id s.core.last s.streams o t.on_stream) g x.of_block

        decoding : (o : Option Decoding) → IsDecoding id s.core.last s.streams b.shown.stream o t.on_stream →
            Kept s.book id (with_tally_on id b.shown.stream t (with_fields s.book t.on_stream (fields_at_end s o p (has h.flags END_HEADERS)))) (continued s b.shown o p (has h.flags END_HEADERS))
        decoding None f = tt
        decoding (Some d) f = fragment-kept id s t b.shown d p (has h.flags END_HEADERS) pos_id x f

    at : (o : Option OpenBlock) → s.block ≡ o → interrupts (block_stream o) h ≡ false → Kept s.book id (received_frame s.book id s t h (part_of h p)) (part_effect s h p (part_of h p))
    at None g e = outside (part_of h p) g
    at (Some b) g e =
        let c = continues b.shown.stream h e in
        rw (continuation-part h p c.0) (inside b g c.1)

-- ---- an item

pub item-kept : (book : List Entry) (id : ℕ) (s : State) (t : Tally) (item : Item) → 1 ≤ id → Agreement book id s t → Kept book id (received book id s t item) (item_effect s item)
item-kept book id s t item pos_id x = subst (λ b. Agreement b id s t → Kept b id (received b id s t item) (item_effect s item)) x.same_book (at item) x
  where
    at : (item : Item) → Agreement s.book id s t → Kept s.book id (received s.book id s t item) (item_effect s item)
    at Preface x = stays s.book id t s (record s.core { phase = phase.Settings }) NoConnectionFrame pos_id (record {
      running = refl;
      same_book = x.same_book;
      same_window = x.same_window;
      same_frame = x.same_frame;
      some_frame = x.some_frame;
      send_is = x.send_is;
      within = x.within;
      agreed = x.agreed;
      bodies = x.bodies;
      ordered = x.ordered;
      idle = x.idle;
      of_block = x.of_block;
    })
    at BadPreface x = tt
    at (Oversize h) x = tt
    at (WholeFrame h p) x = checked (refusal (block_stream s.block) s.core.phase h) refl
      where
        checked : (o : Option Cause) → refusal (block_stream s.block) s.core.phase h ≡ o → Kept s.book id (received_frame s.book id s t h (part_of h p)) (checked_effect s h p o)
        checked (Some cause) e = tt
        checked None e = frame-kept id s t h p pos_id x (not-interrupting (block_stream s.block) s.core.phase h e)
