-- Each run keeps to what the peer grants, and keeps its records in order.
use Rattle.std.proofs.Common.{◌≡◌, ℕ, zero, suc, ◌<◌, ◌≤◌, Bool, true, false, cond, not, ◌&&◌, ◌||◌, List, [], ◌∷◌, ◌++◌, length, drop, refl, sym, ap, subst, ◌∙◌, arith, eqb, length-drop, Option}
use Rattle.std.proofs.lemmas.Bool.{false≢true, both_ways}
use Rattle.std.specs.Prelude.{ℤ}
use Rattle.h2_spec.specs.declared.connection.Config.{Config}
use Rattle.h2_spec.specs.declared.connection.Phase.{Phase}
use Rattle.h2_spec.specs.declared.connection.Phase.TheVariants as phase
use Rattle.h2_spec.specs.declared.streams.StreamState.{StreamState}
use Rattle.h2_spec.specs.declared.streams.StreamState.TheVariants.{Idle, Skipped, BothOpen, HalfRemote, HalfLocal, Ended, PeerReset, WeReset}
use Rattle.h2_spec.specs.declared.streams.Stream.{Stream}
use Rattle.h2_spec.specs.Frames.Parse.{parse_first, parse_all}
use Rattle.h2_spec.specs.Frames.Frame.{Frame, Item, Next, NoItem, Got}
use Rattle.h2_spec.specs.Requests.Answer.{Entry, picked}
use Rattle.h2_spec.specs.State.{State, opening}
use Rattle.h2_spec.specs.Causes.Cause.{code_of}
use Rattle.h2_spec.specs.Change.{Step, goaway, made}
use Rattle.h2_spec.specs.Requests.Headers.{FrameEffect, Breaks, Makes}
use Rattle.h2_spec.specs.Effect.{item_effect, concluded, effect}
use Rattle.h2_spec.specs.SendPending.{send_pending}
use Rattle.h2_spec.specs.Trace.{then_sent, step, next_in, next_item, event_on, next_event, trace}
use Rattle.h2_spec_laws.specs.Grants.{StreamTally, Tally, When, IsWithinConnection, IsWithinStream, IsWithinFrameSize, IsInOrder, IsBeforeEnd, IsOfBody, body_or_nothing, IsUsedUp, is_unfinished, sends_data, sent_all, received, received_by, has_ended, start, Meets, Keeps, KeepsGrants}
use Rattle.h2_spec_laws.specs.Order.{Rise, AreOrdered, KeepsOrder}
use Rattle.h2_spec.proofs.ParseLaws.{Uses, parse_all-step}
use Rattle.h2_spec.proofs.TraceLaws.{event-uses}
use Rattle.h2_spec_laws.proofs.grants.Tallies.{IsRight, Leads, Leads-append, AtEach-weaker, sends_data-append}
use Rattle.h2_spec_laws.proofs.grants.Agreement.{Fits, FitsAs, Absent, Either, FitsStreams, Agreement}
use Rattle.h2_spec_laws.proofs.grants.Turns.{other-leads, Uncut-sends}
use Rattle.h2_spec_laws.proofs.grants.Sending.{PendingSent, sending-keeps}
use Rattle.h2_spec_laws.proofs.grants.Rules.{Kept, quiet-only, not_zero}
use Rattle.h2_spec_laws.proofs.grants.Items.{item-kept}

-- ---- what the record says of the content

fits-of_body : (kind : StreamState) (body : List ℕ) (window : ℕ) (send : ℤ) (left : Option ℕ) (m : StreamTally) → FitsAs kind body window send left m → IsOfBody m
fits-of_body Idle body window send left m f = absurd f
fits-of_body Skipped body window send left m f = absurd f
fits-of_body BothOpen body window send left m f = (Uncut-sends body window send left m f).of_body
fits-of_body HalfRemote body window send left m f = (Uncut-sends body window send left m f).of_body
fits-of_body HalfLocal body window send left m f = f.0.of_body
fits-of_body Ended body window send left m f = f.of_body
fits-of_body PeerReset body window send left m f = f.of_body
fits-of_body WeReset body window send left m f = f.of_body

when_not : (P : Type 0) (b : Bool) → b ≡ false → When b P
when_not P true e = absurd (both_ways true e refl)
when_not P false e = tt

agreed-of_body : (book : List Entry) (window id : ℕ) (sts : List Stream) (m : StreamTally) → FitsStreams book window id sts m → IsOfBody m
agreed-of_body book window id [] m f = (([], rw (f.content, f.promised) refl), when_not (m.content ≡ body_or_nothing m.promised) m.ended f.ended)
agreed-of_body book window id (x ∷ sts) m f = at (λ g. agreed-of_body book window id sts m g) (eqb x.id id) f
  where
    at : (FitsStreams book window id sts m → IsOfBody m) → (c : Bool) → Either c (Fits book window x m × Absent id sts) (FitsStreams book window id sts m) → IsOfBody m
    at more true f = fits-of_body x.kind (picked book x.pick).body window x.numbers.send x.numbers.body_remaining m f.0
    at more false f = more f

-- ---- the tests, from frames that lead to a tally

meets : (id : ℕ) (ends : Bool) (t u : Tally) (sent : List Frame) → Leads id t sent u → IsWithinConnection u → When (sends_data id sent) (IsWithinStream u) → IsOfBody u.on_stream → When (not ends && is_unfinished u.on_stream) (IsUsedUp u) → Meets id ends t sent
meets id ends t u sent l a b c d = record {
  within_connection = subst IsWithinConnection (sym l.tally) a;
  within_stream = subst (λ v. When (sends_data id sent) (IsWithinStream v)) (sym l.tally) b;
  within_frame_size = AtEach-weaker (IsRight id) IsWithinFrameSize (λ v f o. o.0) id t sent l.right;
  answers_once = (AtEach-weaker (IsRight id) (IsInOrder id) (λ v f o. o.1) id t sent l.right, subst (λ (v : Tally). IsOfBody v.on_stream) (sym l.tally) c);
  silent_after_end = AtEach-weaker (IsRight id) (IsBeforeEnd id) (λ v f o. o.2) id t sent l.right;
  nothing_held_back = subst (λ (v : Tally). When (not ends && is_unfinished v.on_stream) (IsUsedUp v)) (sym l.tally) d;
}

when_so : (P : Type 0) (b : Bool) → (b ≡ true → P) → When b P
when_so P true h = h refl
when_so P false h = tt

-- ---- one item

-- what holds after it: the tests, the order of the records, and unless it has ended the connection all that they rest
-- on
record Steps (book : List Entry) (id : ℕ) (t u : Tally) (st : Step) : Type 0 where
  kept : (g : Tally) → g ≡ cond (has_ended st.state.core.phase) t u → Meets id (has_ended st.state.core.phase) g st.sent
  ordered : Rise 0 st.state.core.last st.state.streams
  agrees : has_ended st.state.core.phase ≡ false → Agreement book id st.state (sent_all id u st.sent)

steps : (book : List Entry) (id : ℕ) (s : State) (t : Tally) (item : Item) → 1 ≤ id → Agreement book id s t → Steps book id t (received book id s t item) (step s item)
unfolding step effect
steps book id s t item pos_id x = at (item_effect s item) (item-kept book id s t item pos_id x)
  where
    u : Tally
    u = received book id s t item

    at : (e : FrameEffect) → Kept book id u e → Steps book id t u (then_sent (concluded s e).state.core.phase (concluded s e))
    at (Breaks cause) k = record {
      kept = λ g e.
          let sent : List Frame = goaway s.core.last (code_of cause) ∷ [] in
          let quiet : sends_data id sent ≡ false = quiet-only id 0 sent (refl, refl, tt) in
          subst (λ v. Meets id true v sent) (sym e)
          (meets id true t t sent (other-leads id 0 t sent (not_zero id pos_id) (refl, refl, tt)) x.within (when_not (IsWithinStream t) (sends_data id sent) quiet) (agreed-of_body book t.window id s.streams t.on_stream x.agreed) tt);
      ordered = x.ordered;
      agrees = λ e. absurd (both_ways true e refl);
    }
    at (Makes r c) k = sends (made r c) k.leads k.quiet k.agrees
      where
        sends : (e : Step) → Leads id u e.sent k.tally → sends_data id e.sent ≡ false → Agreement book id e.state k.tally → Steps book id t u (then_sent e.state.core.phase e)
        sends e leads quiet agrees = by_phase e.state.core.phase agrees.running
          where
            q : Step
            q = send_pending e.state

            y : PendingSent book id k.tally q
            y = sending-keeps book id e.state k.tally agrees

            all : Step
            all = record { state = q.state; sent = e.sent ++ q.sent }

            v : Tally
            v = sent_all id k.tally q.sent

            both-lead : Leads id u all.sent v
            both-lead = Leads-append id u k.tally v e.sent q.sent leads (record { right = y.right; tally = refl })

            kept : Meets id false u all.sent
            kept =
                meets id false u v all.sent both-lead y.agrees.within
                (subst (λ b. When b (IsWithinStream v)) (sym (sends_data-append id e.sent q.sent ∙ ap (λ b. b || sends_data id q.sent) quiet)) y.stream)
                (agreed-of_body book v.window id q.state.streams v.on_stream y.agrees.agreed)
                (when_so (IsUsedUp v) (is_unfinished v.on_stream) y.used_up)

            both : Steps book id t u all
            both = record {
              kept = λ g e. subst (λ b. g ≡ cond b t u → Meets id b g all.sent) (sym y.agrees.running) (λ e. subst (λ w. Meets id false w all.sent) (sym e) kept) e;
              ordered = y.agrees.ordered;
              agrees = λ h. subst (Agreement book id q.state) (sym both-lead.tally) y.agrees;
            }

            by_phase : (f : Phase) → has_ended f ≡ false → Steps book id t u (then_sent f e)
            by_phase (phase.Ended code) h = absurd (both_ways true h refl)
            by_phase phase.Preface h = both
            by_phase phase.Settings h = both
            by_phase phase.Running h = both

-- ---- a whole run

ended-stops : (s : State) (b : List ℕ) → has_ended s.core.phase ≡ true → (parse_all next_event s b).elements ≡ []
unfolding next_event next_item
ended-stops s b e = rw (parse_all-step next_event event-uses s b) (at s.core.phase e)
  where
    at : (p : Phase) → has_ended p ≡ true → (parse_first s b (event_on s (next_in p s.core.own.frame b)) (λ t rest. parse_all next_event t rest)).elements ≡ []
    at (phase.Ended code) e = refl
    at phase.Preface e = absurd (false≢true e)
    at phase.Settings e = absurd (false≢true e)
    at phase.Running e = absurd (false≢true e)

-- one item and then the rest, which is shorter
keeps-step : (book : List Entry) (id : ℕ) → 1 ≤ id → (s : State) (t : Tally) (b : List ℕ) → Agreement book id s t →
    ((r : State) (v : Tally) (rest : List ℕ) → length rest < length b → Agreement book id r v → Keeps book id r v (parse_all next_event r rest).elements × AreOrdered (parse_all next_event r rest).elements) →
    Keeps book id s t (parse_all next_event s b).elements × AreOrdered (parse_all next_event s b).elements
unfolding next_event
keeps-step book id pos_id s t b x more = rw (parse_all-step next_event event-uses s b) (at (next_item s b) (event-uses s b))
  where
    at : (y : Next) → Uses b (event_on s y) → Keeps book id s t (parse_first s b (event_on s y) (λ r rest. parse_all next_event r rest)).elements × AreOrdered (parse_first s b (event_on s y) (λ r rest. parse_all next_event r rest)).elements
    at NoItem u = (tt, tt)
    at (Got item used) u = let later = rest (has_ended st.state.core.phase) refl in ((one.kept g refl, later.0), (one.ordered, later.1))
      where
        st : Step
        st = step s item

        one : Steps book id t (received book id s t item) st
        one = steps book id s t item pos_id x

        g : Tally
        g = received_by book id s t (record { item = item; state = st.state; sent = st.sent })

        rest : (c : Bool) → has_ended st.state.core.phase ≡ c → Keeps book id st.state (sent_all id g st.sent) (parse_all next_event st.state (drop used b)).elements × AreOrdered (parse_all next_event st.state (drop used b)).elements
        rest true e = rw (ended-stops st.state (drop used b) e) (tt, tt)
        rest false e =
            let shorter = length-drop used b in
            let same : g ≡ received book id s t item = ap (λ c. cond c t (received book id s t item)) e in
            more st.state (sent_all id g st.sent) (drop used b) (omega (arith, u.0, u.1, shorter))
            (subst (λ w. Agreement book id st.state (sent_all id w st.sent)) (sym same) (one.agrees e))

keeps : (book : List Entry) (id : ℕ) → 1 ≤ id → (n : ℕ) (s : State) (t : Tally) (b : List ℕ) → length b ≤ n → Agreement book id s t → Keeps book id s t (parse_all next_event s b).elements × AreOrdered (parse_all next_event s b).elements
keeps book id pos_id zero s t b h x = keeps-step book id pos_id s t b x (λ r v rest less y. absurd (omega arith))
keeps book id pos_id (suc n) s t b h x = keeps-step book id pos_id s t b x (λ r v rest less y. keeps book id pos_id n r v rest (omega arith) y)

opening-agrees : (book : List Entry) (config : Config) (id : ℕ) → Agreement book id (opening book config) start
opening-agrees book config id = record {
  running = refl;
  same_book = refl;
  same_window = refl;
  same_frame = refl;
  some_frame = omega arith;
  send_is = refl;
  within = omega arith;
  agreed = record { promised = refl; headers = refl; content = refl; ended = refl };
  bodies = tt;
  ordered = omega arith;
  idle = λ h. (refl, tt);
  of_block = tt;
}

pub grants-kept : (book : List Entry) (config : Config) (octets : List ℕ) → KeepsGrants book config octets
unfolding trace
grants-kept book config b id pos_id = (keeps book id pos_id (length b) (opening book config) start b (omega arith) (opening-agrees book config id)).0

pub order-kept : (book : List Entry) (config : Config) (octets : List ℕ) → KeepsOrder book config octets
unfolding trace
order-kept book config b = (keeps book 1 (omega arith) (length b) (opening book config) start b (omega arith) (opening-agrees book config 1)).1
