-- SETTINGS keep the tests: the windows of the streams move with the initial window of the tally.
use Rattle.std.proofs.Common.{◌≡◌, ℕ, ◌≤◌, Bool, true, false, cond, List, [], ◌∷◌, refl, sym, subst, arith, eqb, leb, Option, Some, None, Result, Ok, Err}
use Rattle.std.proofs.lemmas.Bool.{eqb-true, and_parts, leb-true}
use Rattle.std.proofs.lemmas.Int.{ints}
use Rattle.std.specs.Prelude.{◌&&◌, ℤ, ◌+ℤ◌}
use Rattle.h2_spec.specs.declared.causes.Cause.{Cause}
use Rattle.h2_spec.specs.declared.causes.Cause.TheVariants.{EnablePushValue, InitialWindowSizeValue, MaxFrameSizeValue, InitialWindowSizeOverflow}
use Rattle.h2_spec.specs.declared.flow.LocalSettings.{LocalSettings}
use Rattle.h2_spec.specs.declared.flow.Settings.{Settings}
use Rattle.h2_spec.specs.declared.reactions.ConnectionFrame.TheVariants.{NoConnectionFrame}
use Rattle.h2_spec.specs.declared.reactions.Reaction.TheVariants.{Continues}
use Rattle.h2_spec.specs.declared.streams.StreamState.{StreamState}
use Rattle.h2_spec.specs.declared.streams.StreamState.TheVariants.{Idle, Skipped, BothOpen, HalfRemote, HalfLocal, Ended, PeerReset, WeReset}
use Rattle.h2_spec.specs.declared.streams.Stream.{Stream}
use Rattle.h2_spec.specs.Settings.{with_setting}
use Rattle.h2_spec.specs.SettingsFrame.{acknowledged, comes_into_force, setting_next, settings_applied, settings_taken, settings_rule}
use Rattle.h2_spec.specs.Requests.Answer.{Entry, picked}
use Rattle.h2_spec.specs.Stream.{is_live, octets_waiting}
use Rattle.h2_spec.specs.State.{State, configured}
use Rattle.h2_spec.specs.declared.ignored.Ignored.TheVariants.{SecondAcknowledgement}
use Rattle.h2_spec.specs.Change.{frames_of, ignoring, only_counts, follows_initial_window, received, received_one, with_recv, shifted, shifted_one, overflows, moved_by}
use Rattle.h2_spec.specs.Requests.Headers.{makes}
use Rattle.h2_spec_laws.specs.Grants.{StreamTally, Tally, with_settings}
use Rattle.h2_spec_laws.specs.Grants as tally
use Rattle.h2_spec_laws.specs.Order.{Rise}
use Rattle.h2_spec_laws.proofs.grants.Agreement.{Sends, Fits, Absent, Either, FitsStreams, HasBody, Bodies, FitsBlock, Agreement}
use Rattle.h2_spec_laws.proofs.grants.Turns.{other-leads}
use Rattle.h2_spec_laws.proofs.grants.Rules.{Kept, because, either-kept, not_zero, stays}

-- ---- the settings

-- the tally with the window and the frame size of these settings
abbrev with_peer : Tally → Settings → Tally
with_peer t peer = record t { window = peer.window; frame = peer.frame }

-- a tally has taken the settings that resulted in these, unless they are refused
abbrev Takes : Tally → Tally → Result Settings Cause → Type 0
Takes t u (Err cause) = Unit {0}
Takes t u (Ok peer) = (u ≡ with_peer t peer) × (1 ≤ peer.frame)

-- one setting
setting-taken : (t : Tally) (s : Settings) (i v : ℕ) → 1 ≤ s.frame → Takes t (tally.with_setting (with_peer t s) i v) (with_setting s i v)
unfolding with_setting
setting-taken t s i v some = one (eqb i 1) refl
  where
    Goal : ℕ → Type 0
    Goal k = Takes t (tally.with_setting (with_peer t s) k v) (with_setting s k v)

    push : (b : Bool) → Takes t (with_peer t s) (cond b (Ok (record s { push = v })) (Err EnablePushValue))
    push true = (refl, some)
    push false = tt

    window : (b : Bool) → Takes t (with_peer t (record s { window = v })) (cond b (Ok (record s { window = v })) (Err InitialWindowSizeValue))
    window true = (refl, some)
    window false = tt

    frame : (b : Bool) → (leb 16384 v && leb v 16777215) ≡ b → Takes t (with_peer t (record s { frame = v })) (cond b (Ok (record s { frame = v })) (Err MaxFrameSizeValue))
    frame true e = let large = leb-true 16384 v (and_parts (leb 16384 v) (leb v 16777215) e).0 in (refl, omega arith)
    frame false e = tt

    six : (b : Bool) → eqb i 6 ≡ b → eqb i 5 ≡ false → eqb i 4 ≡ false → eqb i 3 ≡ false → eqb i 2 ≡ false → eqb i 1 ≡ false → Goal i
    six true e a5 a4 a3 a2 a1 = subst Goal (sym (eqb-true i 6 e)) (refl, some)
    six false e a5 a4 a3 a2 a1 = rw (a1, a2, a3, a4, a5, e) (refl, some)

    five : (b : Bool) → eqb i 5 ≡ b → eqb i 4 ≡ false → eqb i 3 ≡ false → eqb i 2 ≡ false → eqb i 1 ≡ false → Goal i
    five true e a4 a3 a2 a1 = subst Goal (sym (eqb-true i 5 e)) (frame (leb 16384 v && leb v 16777215) refl)
    five false e a4 a3 a2 a1 = six (eqb i 6) refl e a4 a3 a2 a1

    four : (b : Bool) → eqb i 4 ≡ b → eqb i 3 ≡ false → eqb i 2 ≡ false → eqb i 1 ≡ false → Goal i
    four true e a3 a2 a1 = subst Goal (sym (eqb-true i 4 e)) (window (leb v 2147483647))
    four false e a3 a2 a1 = five (eqb i 5) refl e a3 a2 a1

    three : (b : Bool) → eqb i 3 ≡ b → eqb i 2 ≡ false → eqb i 1 ≡ false → Goal i
    three true e a2 a1 = subst Goal (sym (eqb-true i 3 e)) (refl, some)
    three false e a2 a1 = four (eqb i 4) refl e a2 a1

    two : (b : Bool) → eqb i 2 ≡ b → eqb i 1 ≡ false → Goal i
    two true e a1 = subst Goal (sym (eqb-true i 2 e)) (push (leb v 1))
    two false e a1 = three (eqb i 3) refl e a1

    one : (b : Bool) → eqb i 1 ≡ b → Goal i
    one true e = subst Goal (sym (eqb-true i 1 e)) (refl, some)
    one false e = two (eqb i 2) refl e

-- all of a frame's
settings-applied : (streams : List Stream) (from : Settings) (t u : Tally) (s : Settings) (ps : List (ℕ × ℕ)) → u ≡ with_peer t s → 1 ≤ s.frame → Takes t (with_settings u ps) (settings_applied streams from s ps)
unfolding settings_applied
settings-applied streams from t u s [] e some = (e, some)
settings-applied streams from t u s (p ∷ ps) e some =
    next (with_setting s p.0 p.1) (subst (λ w. Takes t (tally.with_setting w p.0 p.1) (with_setting s p.0 p.1)) (sym e) (setting-taken t s p.0 p.1 some)) (λ r g h. settings-applied streams from t v r ps g h)
  where
    v : Tally
    v = tally.with_setting u p.0 p.1

    passed : (b : Bool) (r : Result Settings Cause) → Takes t (with_settings v ps) r → Takes t (with_settings v ps) (cond b (Err InitialWindowSizeOverflow) r)
    passed true r h = tt
    passed false r h = h

    next : (o : Result Settings Cause) → Takes t v o → ((r : Settings) → v ≡ with_peer t r → 1 ≤ r.frame → Takes t (with_settings v ps) (settings_applied streams from r ps)) →
        Takes t (with_settings v ps) (setting_next streams from o (λ r. settings_applied streams from r ps))
    next (Err cause) h more = tt
    next (Ok r) h more = passed (overflows (moved_by from.window r.window) streams) (settings_applied streams from r ps) (more r h.0 h.1)

-- ---- the records after a change of the initial window

shifted-id : (d : ℤ) (st : Stream) → (shifted_one d st).id ≡ st.id
shifted-id d st = at (follows_initial_window st.kind)
  where
    at : (b : Bool) → (cond b (record st { numbers = record st.numbers { send = st.numbers.send +ℤ d } }) st).id ≡ st.id
    at true = refl
    at false = refl

shifted-absent : (id : ℕ) (d : ℤ) (sts : List Stream) → Absent id sts → Absent id (shifted d sts)
unfolding shifted
shifted-absent id d [] a = tt
shifted-absent id d (x ∷ sts) a = (rw (shifted-id d x) a.0, shifted-absent id d sts a.1)

shifted-rise : (low high : ℕ) (d : ℤ) (sts : List Stream) → Rise low high sts → Rise low high (shifted d sts)
unfolding shifted
shifted-rise low high d [] r = r
shifted-rise low high d (x ∷ sts) r = rw (shifted-id d x) (r.0, shifted-rise x.id high d sts r.1)

shifted-bodies : (book : List Entry) (d : ℤ) (sts : List Stream) → Bodies book sts → Bodies book (shifted d sts)
unfolding shifted octets_waiting
shifted-bodies book d [] b = tt
shifted-bodies book d (x ∷ sts) b = (at (follows_initial_window x.kind), shifted-bodies book d sts b.1)
  where
    at : (c : Bool) → HasBody book (cond c (record x { numbers = record x.numbers { send = x.numbers.send +ℤ d } }) x)
    at true = b.0
    at false = b.0

shifted-sends : (body : List ℕ) (window new : ℕ) (send : ℤ) (left : Option ℕ) (m : StreamTally) → Sends body window send left m → Sends body new (send +ℤ moved_by window new) left m
shifted-sends body window new send left m f = record { promised = f.promised; send_is = let e = f.send_is in omega (arith, ints); waits = f.waits; ended = f.ended; reset = f.reset }

shifted-fits : (book : List Entry) (window new : ℕ) (st : Stream) (m : StreamTally) → Fits book window st m → Fits book new (shifted_one (moved_by window new) st) m
shifted-fits book window new st m f = at st.kind f
  where
    at : (k : StreamState) → Fits book window (record st { kind = k }) m → Fits book new (shifted_one (moved_by window new) (record st { kind = k })) m
    at Idle f = f
    at Skipped f = f
    at BothOpen f = shifted-sends (picked book st.pick).body window new st.numbers.send st.numbers.body_remaining m f
    at HalfRemote f = shifted-sends (picked book st.pick).body window new st.numbers.send st.numbers.body_remaining m f
    at HalfLocal f = f
    at Ended f = f
    at PeerReset f = f
    at WeReset f = f

shifted-agreed : (book : List Entry) (window new id : ℕ) (sts : List Stream) (m : StreamTally) → FitsStreams book window id sts m → FitsStreams book new id (shifted (moved_by window new) sts) m
unfolding shifted
shifted-agreed book window new id [] m f = f
shifted-agreed book window new id (x ∷ sts) m f = rw (shifted-id (moved_by window new) x) (at (λ g. shifted-agreed book window new id sts m g) (eqb x.id id) f)
  where
    rest : List Stream
    rest = shifted (moved_by window new) sts

    at : (FitsStreams book window id sts m → FitsStreams book new id rest m) → (c : Bool) → Either c (Fits book window x m × Absent id sts) (FitsStreams book window id sts m) →
        Either c (Fits book new (shifted_one (moved_by window new) x) m × Absent id rest) (FitsStreams book new id rest m)
    at more true f = (shifted-fits book window new x m f.0, shifted-absent id (moved_by window new) sts f.1)
    at more false f = more f

-- ---- the records after a change of the server's own initial window

received-id : (d : ℤ) (st : Stream) → (received_one d st).id ≡ st.id
received-id d st = at (is_live st.kind)
  where
    at : (b : Bool) → (cond b (with_recv st (st.numbers.recv +ℤ d)) st).id ≡ st.id
    at true = refl
    at false = refl

received-absent : (id : ℕ) (d : ℤ) (sts : List Stream) → Absent id sts → Absent id (received d sts)
unfolding received
received-absent id d [] a = tt
received-absent id d (x ∷ sts) a = (rw (received-id d x) a.0, received-absent id d sts a.1)

received-rise : (low high : ℕ) (d : ℤ) (sts : List Stream) → Rise low high sts → Rise low high (received d sts)
unfolding received
received-rise low high d [] r = r
received-rise low high d (x ∷ sts) r = rw (received-id d x) (r.0, received-rise x.id high d sts r.1)

received-bodies : (book : List Entry) (d : ℤ) (sts : List Stream) → Bodies book sts → Bodies book (received d sts)
unfolding received octets_waiting
received-bodies book d [] b = tt
received-bodies book d (x ∷ sts) b = (at (is_live x.kind), received-bodies book d sts b.1)
  where
    at : (c : Bool) → HasBody book (cond c (with_recv x (x.numbers.recv +ℤ d)) x)
    at true = b.0
    at false = b.0

received-agreed : (book : List Entry) (window id : ℕ) (d : ℤ) (sts : List Stream) (m : StreamTally) → FitsStreams book window id sts m → FitsStreams book window id (received d sts) m
unfolding received
received-agreed book window id d [] m f = f
received-agreed book window id d (x ∷ sts) m f = rw (received-id d x) (at (λ g. received-agreed book window id d sts m g) (eqb x.id id) (is_live x.kind) f)
  where
    rest : List Stream
    rest = received d sts

    at : (FitsStreams book window id sts m → FitsStreams book window id rest m) → (c l : Bool) → Either c (Fits book window x m × Absent id sts) (FitsStreams book window id sts m) →
        Either c (Fits book window (cond l (with_recv x (x.numbers.recv +ℤ d)) x) m × Absent id rest) (FitsStreams book window id rest m)
    at more true true f = (f.0, received-absent id d sts f.1)
    at more true false f = (f.0, received-absent id d sts f.1)
    at more false l f = more f

-- ---- the rules

-- the server's own settings come into force: no window of the peer's changes
pub acknowledged-kept : (id : ℕ) (s : State) (t : Tally) → 1 ≤ id → Agreement s.book id s t → s.block ≡ None → Kept s.book id t (makes s (acknowledged s.config s.core))
unfolding frames_of
acknowledged-kept id s t pos_id x none =
    either-kept s.book id t s s.core.acked (Continues (ignoring SecondAcknowledgement (only_counts s.core))) (Continues (comes_into_force s.core own)) (because s.book id t s (only_counts s.core) (Some SecondAcknowledgement) (stays s.book id t s s.core NoConnectionFrame pos_id x))
    (record {
      tally = t;
      leads = other-leads id 0 t _ (not_zero id pos_id) tt;
      quiet = refl;
      agrees = record {
        running = x.running;
        same_book = x.same_book;
        same_window = x.same_window;
        same_frame = x.same_frame;
        some_frame = x.some_frame;
        send_is = x.send_is;
        within = x.within;
        agreed = received-agreed s.book t.window id d s.streams t.on_stream x.agreed;
        bodies = received-bodies s.book d s.streams x.bodies;
        ordered = received-rise 0 s.core.last d s.streams x.ordered;
        idle = λ i. let j = x.idle i in (j.0, received-absent id d s.streams j.1);
        of_block = subst (λ o. FitsBlock id s.core.last (received d s.streams) o t.on_stream) (sym none) tt;
      };
    })
  where
    own : LocalSettings
    own = configured s.config

    d : ℤ
    d = moved_by s.core.own.window own.window

pub settings-kept : (id : ℕ) (s : State) (t : Tally) (pairs : List (ℕ × ℕ)) → 1 ≤ id → Agreement s.book id s t → s.block ≡ None → Kept s.book id (with_settings t pairs) (makes s (settings_rule s.streams s.core pairs))
unfolding settings_rule frames_of
settings-kept id s t pairs pos_id x none =
    at (settings_applied s.streams s.core.peer s.core.peer pairs)
    (settings-applied s.streams s.core.peer t t s.core.peer pairs (rw (x.same_window, x.same_frame) refl) (rw x.same_frame x.some_frame))
  where
    u : Tally
    u = with_settings t pairs

    at : (r : Result Settings Cause) → Takes t u r → Kept s.book id u (makes s (settings_taken s.core r))
    at (Err cause) h = tt
    at (Ok peer) h =
        let d : ℤ = moved_by s.core.peer.window peer.window in
        subst (λ v. Kept s.book id v (makes s (settings_taken s.core (Ok peer)))) (sym h.0) (record {
          tally = with_peer t peer;
          leads = other-leads id 0 (with_peer t peer) _ (not_zero id pos_id) (refl, refl, tt);
          quiet = rw (not_zero id pos_id) refl;
          agrees = record {
            running = refl;
            same_book = x.same_book;
            same_window = refl;
            same_frame = refl;
            some_frame = h.1;
            send_is = x.send_is;
            within = x.within;
            agreed = shifted-agreed s.book s.core.peer.window peer.window id s.streams t.on_stream (rw x.same_window x.agreed);
            bodies = shifted-bodies s.book d s.streams x.bodies;
            ordered = shifted-rise 0 s.core.last d s.streams x.ordered;
            idle = λ i. let j = x.idle i in (j.0, shifted-absent id d s.streams j.1);
            of_block = subst (λ o. FitsBlock id s.core.last (shifted d s.streams) o t.on_stream) (sym none) tt;
          };
        })
