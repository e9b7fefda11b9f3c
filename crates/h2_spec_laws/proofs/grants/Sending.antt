-- Sending pending output keeps the tests, and holds back nothing that could be sent.
use Rattle.std.proofs.Common.{◌≡◌, ◌≢◌, ℕ, zero, suc, ◌+◌, ◌-◌, ◌<◌, ◌≤◌, ◌⊎◌, inl, inr, min, Bool, true, false, cond, ◌||◌, List, [], ◌∷◌, ◌++◌, length, take, drop, refl, sym, ap, subst, ◌∙◌, arith, eqb, append_assoc, length-append, length-drop, Option, Some, None}
use Rattle.std.proofs.lemmas.List.{take-append-drop, length-take, drop-drop, drop_all, append-nil}
use Rattle.std.proofs.lemmas.Bool.{eqb-true, eqb-false, ne_eqb, cases_lt, both_ways}
use Rattle.std.proofs.lemmas.Int.{ints}
use Rattle.std.specs.Option.{is_some}
use Rattle.std.specs.Prelude.{ℤ, pos, negsuc, ◌+ℤ◌, ◌-ℤ◌}
use Rattle.h2_spec.specs.declared.streams.StreamState.{StreamState}
use Rattle.h2_spec.specs.declared.streams.StreamState.TheVariants.{Idle, Skipped, BothOpen, HalfRemote, HalfLocal, Ended, PeerReset, WeReset}
use Rattle.h2_spec.specs.declared.streams.Numbers.{Numbers}
use Rattle.h2_spec.specs.declared.streams.Pick.{Pick}
use Rattle.h2_spec.specs.declared.streams.Stream.{Stream}
use Rattle.h2_spec.specs.Frames.Frame.{Frame}
use Rattle.h2_spec.specs.Requests.Answer.{Entry, picked}
use Rattle.h2_spec.specs.Stream.{is_live, octets_left, octets_waiting}
use Rattle.h2_spec.specs.State.{State}
use Rattle.h2_spec.specs.Window.{sendable}
use Rattle.h2_spec.specs.Change.{Step}
use Rattle.h2_spec.specs.Requests.StreamEnds.{server_ended, server_ended_as, with_body_remaining}
use Rattle.h2_spec.specs.SendPending.{allowance, data_upto, data_frames, allowance_frames, with_paid, after_sending, sent_frames, all_after_sending, window_left, send_pending}
use Rattle.h2_spec_laws.specs.Grants.{StreamTally, Tally, When, AtEach, IsWithinStream, IsUsedUp, body_or_nothing, is_unfinished, sends_data, sent_all}
use Rattle.h2_spec_laws.specs.Order.{Rise}
use Rattle.h2_spec_laws.proofs.grants.Tallies.{always, IsRight, Leads, Leads-append, Leads-to, elsewhere, nowhere, data-elsewhere, data-own, sends_data-append, quiet-append, finished_by_end, finished_by_reset, not_begun}
use Rattle.h2_spec_laws.proofs.grants.Records.{still-recorded}
use Rattle.h2_spec_laws.proofs.grants.Agreement.{Waits, Sends, HasEnded, FitsAs, Fits, Absent, Either, FitsStreams, HasBody, Bodies, FitsBlock-same, Agreement}

-- ---- the octets of a share

-- of the octets of a body that are left, the next ones
abbrev next_octets : List ℕ → ℕ → ℕ → List ℕ
next_octets body left n = take n (drop (length body - left) body)

next-length : (body : List ℕ) (left n : ℕ) → left ≤ length body → n ≤ left → length (next_octets body left n) ≡ n
next-length body left n h g = omega (arith, length-take n (drop (length body - left) body), length-drop (length body - left) body)

next-rest : (sent body : List ℕ) (left n : ℕ) → left ≤ length body → n ≤ left → sent ++ drop (length body - left) body ≡ body →
    (sent ++ next_octets body left n) ++ drop (length body - (left - n)) body ≡ body
next-rest sent body left n h g e =
    let place : length body - (left - n) ≡ length body - left + n = omega arith in
    rw (place, append_assoc, ← drop-drop n (length body - left) body, take-append-drop n (drop (length body - left) body)) e

allowance-le : (w : ℕ) (st : Stream) → (allowance w st ≤ w) × (allowance w st ≤ octets_waiting st) × (allowance w st ≤ sendable st.numbers.send)
unfolding allowance
allowance-le w st = (omega arith, omega arith, omega arith)

-- ---- the record after it

after-id : (n : ℕ) (st : Stream) → (after_sending n st).id ≡ st.id
unfolding after_sending server_ended
after-id n st = at (eqb n 0) (eqb (octets_waiting st) n) st.kind
  where
    at : (z b : Bool) (k : StreamState) → (cond z st (cond b (server_ended_as k (with_paid st n)) (with_body_remaining (with_paid st n) (octets_waiting st - n)))).id ≡ st.id
    at true b k = refl
    at false false k = refl
    at false true Idle = refl
    at false true Skipped = refl
    at false true BothOpen = refl
    at false true HalfRemote = refl
    at false true HalfLocal = refl
    at false true Ended = refl
    at false true PeerReset = refl
    at false true WeReset = refl

after-has_body : (book : List Entry) (n : ℕ) (st : Stream) → HasBody book st → HasBody book (after_sending n st)
unfolding after_sending server_ended octets_waiting
after-has_body book n st h = at (eqb n 0) (eqb (octets_waiting st) n) st.kind h
  where
    -- the record with another state
    in_state : StreamState → Stream
    in_state k = record st { kind = k }

    at : (z b : Bool) (k : StreamState) → HasBody book (in_state k) → HasBody book (cond z (in_state k) (cond b (server_ended_as k (with_paid (in_state k) n)) (with_body_remaining (with_paid (in_state k) n) (octets_waiting (in_state k) - n))))
    at true b k h = h
    at false false Idle h = (omega arith, h.1)
    at false false Skipped h = (omega arith, h.1)
    at false false BothOpen h = (omega arith, h.1)
    at false false HalfRemote h = (omega arith, h.1)
    at false false HalfLocal h = (omega arith, h.1)
    at false false Ended h = (omega arith, h.1)
    at false false PeerReset h = (omega arith, h.1)
    at false false WeReset h = (omega arith, h.1)
    at false true Idle h = (h.0, h.1)
    at false true Skipped h = (h.0, h.1)
    at false true BothOpen h = (omega arith, tt)
    at false true HalfRemote h = (omega arith, tt)
    at false true HalfLocal h = (h.0, h.1)
    at false true Ended h = (h.0, h.1)
    at false true PeerReset h = (h.0, h.1)
    at false true WeReset h = (h.0, h.1)

-- ---- a stream that isn't followed

allowance-elsewhere : (book : List Entry) (id size n : ℕ) (st : Stream) (t : Tally) → eqb st.id id ≡ false → size ≡ t.frame → 1 ≤ size → HasBody book st → n ≤ octets_waiting st →
    Leads id t (allowance_frames book size n st) (elsewhere t n) × (sends_data id (allowance_frames book size n st) ≡ false)
unfolding allowance_frames data_frames
allowance-elsewhere book id size n st t e f h b l =
    let xs : List ℕ = next_octets (picked book st.pick).body (octets_waiting st) n in
    let k : length xs ≡ n = next-length (picked book st.pick).body (octets_waiting st) n b.0 l in
    let all = data-elsewhere (length xs) id st.id size (eqb (octets_waiting st) n) t xs e (omega arith) h (omega arith) in
    (Leads-to id _ _ _ _ all.0 (ap (elsewhere t) k), all.1)

-- what sending leaves where no record has the identifier
record Passes (book : List Entry) (id : ℕ) (t : Tally) (w : ℕ) (frames : List Frame) (streams : List Stream) (left : ℕ) : Type 0 where
  leads : Leads id t frames (elsewhere t (w - left))
  quiet : sends_data id frames ≡ false
  within : left ≤ w
  absent : Absent id streams
  bodies : Bodies book streams

passes : (book : List Entry) (id size : ℕ) (sts : List Stream) (t : Tally) (w : ℕ) → size ≡ t.frame → 1 ≤ size → Absent id sts → Bodies book sts →
    Passes book id t w (sent_frames book size w sts) (all_after_sending w sts) (window_left w sts)
unfolding sent_frames all_after_sending window_left
passes book id size [] t w f h a b = record { leads = Leads-to id _ _ _ _ (nowhere id t) (ap (elsewhere t) (omega arith)); quiet = refl; within = omega arith; absent = tt; bodies = tt }
passes book id size (st ∷ sts) t w f h a b =
    let n : ℕ = allowance w st in
    let le = allowance-le w st in
    let one = allowance-elsewhere book id size n st t a.0 f h b.0 le.1 in
    let more = passes book id size sts (elsewhere t n) (w - n) f h a.1 b.1 in
    let sum : t.sent + n + (w - n - window_left (w - n) sts) ≡ t.sent + (w - window_left (w - n) sts) = omega (arith, le.0, more.within) in
    record {
      leads = Leads-to id _ _ _ _ (Leads-append id t _ _ _ _ one.0 more.leads) (ap (λ k. record t { sent = k }) sum);
      quiet = quiet-append id _ _ one.1 more.quiet;
      within = omega (arith, le.0, more.within);
      absent = (rw (after-id n st) a.0, more.absent);
      bodies = (after-has_body book n st b.0, more.bodies);
    }

-- ---- the stream that is followed

-- what its share leaves
record Pays (book : List Entry) (id : ℕ) (t : Tally) (w : ℕ) (frames : List Frame) (n : ℕ) (st : Stream) : Type 0 where
  on_stream : StreamTally
  leads : Leads id t frames (record t { sent = t.sent + n; on_stream = on_stream })
  fits : Fits book t.window st on_stream
  promised : on_stream.promised ≡ t.on_stream.promised
  reset : on_stream.reset ≡ t.on_stream.reset
  stream : When (sends_data id frames) (length on_stream.content ≤ t.window + on_stream.granted)
  held : is_unfinished on_stream ≡ true → (t.window + on_stream.granted ≤ length on_stream.content) ⊎ (n ≡ w)

held-sends : (body : List ℕ) (window w : ℕ) (x : Numbers) (m : StreamTally) → Sends body window x.send x.body_remaining m → is_unfinished m ≡ true → min (min (octets_left x.body_remaining) (sendable x.send)) w ≡ 0 → (window + m.granted ≤ length m.content) ⊎ (0 ≡ w)
held-sends body window w x m f u e = at x.body_remaining x.send f.waits f.send_is e
  where
    at : (o : Option ℕ) (z : ℤ) → Waits body o m → z +ℤ pos (length m.content) ≡ pos (window + m.granted) → min (min (octets_left o) (sendable z)) w ≡ 0 → (window + m.granted ≤ length m.content) ⊎ (0 ≡ w)
    at None z p q e = absurd (not_begun m p.0 u)
    at (Some l) (pos zero) p q e = inl (omega (arith, ints))
    at (Some l) (negsuc k) p q e = inl (omega (arith, ints))
    at (Some l) (pos (suc k)) p q e = inr (omega arith)

-- where it sends nothing
rests : (book : List Entry) (id w : ℕ) (i : ℕ) (kind : StreamState) (x : Numbers) (pick : Pick) (t : Tally) →
    let st : Stream = record { id = i; kind = kind; numbers = x; pick = pick } in
    Fits book t.window st t.on_stream → allowance w st ≡ 0 → Pays book id t w [] 0 st
unfolding allowance octets_waiting
rests book id w i kind x pick t f e = record {
  on_stream = t.on_stream;
  leads = nowhere id t;
  fits = f;
  promised = refl;
  reset = refl;
  stream = tt;
  held = λ u. at kind f u e;
}
  where
    at : (k : StreamState) → FitsAs k (picked book pick).body t.window x.send x.body_remaining t.on_stream → is_unfinished t.on_stream ≡ true → min (min (cond (is_live k) (octets_left x.body_remaining) 0) (sendable x.send)) w ≡ 0 → (t.window + t.on_stream.granted ≤ length t.on_stream.content) ⊎ (0 ≡ w)
    at Idle f u e = absurd f
    at Skipped f u e = absurd f
    at BothOpen f u e = held-sends (picked book pick).body t.window w x t.on_stream f u e
    at HalfRemote f u e = held-sends (picked book pick).body t.window w x t.on_stream f u e
    at HalfLocal f u e = absurd (finished_by_end t.on_stream f.0.ended u)
    at Ended f u e = absurd (finished_by_end t.on_stream f.ended u)
    at PeerReset f u e = absurd (finished_by_reset t.on_stream f.reset u)
    at WeReset f u e = absurd (finished_by_reset t.on_stream f.reset u)

within-window : (z : ℤ) (a b n : ℕ) → z +ℤ pos a ≡ pos b → suc n ≤ sendable z → a + suc n ≤ b
within-window (pos m) a b n e h = omega (arith, ints)
within-window (negsuc m) a b n e h = absurd (omega arith)

-- where it sends this many octets and one
module _ (book : List Entry) (id size k l : ℕ) (t : Tally) (x : Numbers) (body : List ℕ)
    (same : size ≡ t.frame) (some : 1 ≤ size) (f : Sends body t.window x.send (Some l) t.on_stream) (le : suc k ≤ l) (within : suc k ≤ sendable x.send) where
  abbrev xs : List ℕ
  xs = next_octets body l (suc k)

  abbrev after : Bool → StreamTally
  after b = record t.on_stream { content = t.on_stream.content ++ xs; ended = b }

  long : length xs ≡ suc k
  long = next-length body l (suc k) f.waits.2 le

  rest : (t.on_stream.content ++ xs) ++ drop (length body - (l - suc k)) body ≡ body
  rest = next-rest t.on_stream.content body l (suc k) f.waits.2 le f.waits.3

  total : length (t.on_stream.content ++ xs) ≡ length t.on_stream.content + suc k
  total = omega (arith, length-append t.on_stream.content xs, long)

  sends-more : eqb l (suc k) ≡ false → Sends body t.window (x.send -ℤ pos (suc k)) (Some (l - suc k)) (after false)
  sends-more e = record {
    promised = f.promised;
    send_is = let s = f.send_is in omega (arith, ints, total);
    waits = (f.waits.0, (let other : l ≢ suc k = eqb-false l (suc k) e in omega arith), (let most : l ≤ length body = f.waits.2 in omega arith), rest);
    ended = refl;
    reset = f.reset;
  }

  ends-now : eqb l (suc k) ≡ true → HasEnded (after true)
  ends-now e =
      let none : length body ≤ length body - (l - suc k) = omega (arith, eqb-true l (suc k) e) in
      let whole : t.on_stream.content ++ xs ≡ body = sym (append-nil (t.on_stream.content ++ xs)) ∙ (ap (λ ys. (t.on_stream.content ++ xs) ++ ys) (sym (drop_all (length body - (l - suc k)) body none)) ∙ rest) in
      let promised : body ≡ body_or_nothing t.on_stream.promised = ap body_or_nothing (sym f.promised) in
      record {
        promised = ap is_some f.promised;
        of_body = (([], append-nil (t.on_stream.content ++ xs) ∙ (whole ∙ promised)), whole ∙ promised);
        ended = refl;
      }

  held-more : (w : ℕ) (b : Bool) → eqb l (suc k) ≡ b → suc k ≡ min (min l (sendable x.send)) w → is_unfinished (after b) ≡ true → (t.window + t.on_stream.granted ≤ length (t.on_stream.content ++ xs)) ⊎ (suc k ≡ w)
  held-more w true e m u = absurd (finished_by_end (after true) refl u)
  held-more w false e m u = at x.send f.send_is m (cases_lt (suc k) w)
    where
      at : (z : ℤ) → z +ℤ pos (length t.on_stream.content) ≡ pos (t.window + t.on_stream.granted) → suc k ≡ min (min l (sendable z)) w → (suc k < w) ⊎ (w ≤ suc k) → (t.window + t.on_stream.granted ≤ length (t.on_stream.content ++ xs)) ⊎ (suc k ≡ w)
      at z g m (inr h) = inr (omega arith)
      at (pos n) g m (inl h) = let other : l ≢ suc k = eqb-false l (suc k) e in inl (omega (arith, ints, total))
      at (negsuc n) g m (inl h) = absurd (omega arith)

  -- whichever record it leaves, if that fits
  pays : (w i : ℕ) (st : Stream) → eqb i id ≡ true → suc k ≡ min (min l (sendable x.send)) w → Fits book t.window st (after (eqb l (suc k))) →
      Pays book id t w (data_frames i (eqb l (suc k)) size xs) (suc k) st
  pays w i st own m fits =
      let b : Bool = eqb l (suc k) in
      record {
        on_stream = after b;
        leads = Leads-to id _ _ _ _ (data-own id i size b t xs own (omega arith) some (omega (arith, long)) f.waits.0 f.ended f.reset) (ap (λ y. record t { sent = t.sent + y; on_stream = after b }) long);
        fits = fits;
        promised = refl;
        reset = refl;
        stream = always (sends_data id (data_frames i b size xs)) (let r = within-window x.send (length t.on_stream.content) (t.window + t.on_stream.granted) k f.send_is within in omega (arith, r, total));
        held = held-more w b refl m;
      }

  -- the record that is left, where the peer's side is open and where it is not
  both-fits : (i : ℕ) (pick : Pick) (b : Bool) → body ≡ (picked book pick).body → eqb l (suc k) ≡ b →
      let st : Stream = record { id = i; kind = BothOpen; numbers = record x { body_remaining = Some l }; pick = pick } in
      Fits book t.window (cond b (server_ended (with_paid st (suc k))) (with_body_remaining (with_paid st (suc k)) (l - suc k))) (after b)
  unfolding server_ended
  both-fits i pick true g e = (ends-now e, f.reset, refl)
  both-fits i pick false g e = subst (λ ys. Sends ys t.window (x.send -ℤ pos (suc k)) (Some (l - suc k)) (after false)) g (sends-more e)

  half-fits : (i : ℕ) (pick : Pick) (b : Bool) → body ≡ (picked book pick).body → eqb l (suc k) ≡ b →
      let st : Stream = record { id = i; kind = HalfRemote; numbers = record x { body_remaining = Some l }; pick = pick } in
      Fits book t.window (cond b (server_ended (with_paid st (suc k))) (with_body_remaining (with_paid st (suc k)) (l - suc k))) (after b)
  unfolding server_ended
  half-fits i pick true g e = ends-now e
  half-fits i pick false g e = subst (λ ys. Sends ys t.window (x.send -ℤ pos (suc k)) (Some (l - suc k)) (after false)) g (sends-more e)

after-none : (st : Stream) → after_sending 0 st ≡ st
unfolding after_sending
after-none st = refl

after-some : (k : ℕ) (st : Stream) → after_sending (suc k) st ≡ cond (eqb (octets_waiting st) (suc k)) (server_ended (with_paid st (suc k))) (with_body_remaining (with_paid st (suc k)) (octets_waiting st - suc k))
unfolding after_sending
after-some k st = rw (ne_eqb (suc k) 0 (λ e. absurd (omega arith))) refl

-- whatever its share is
own-allowance : (book : List Entry) (id size w i : ℕ) (kind : StreamState) (x : Numbers) (pick : Pick) (t : Tally) (n : ℕ) →
    let st : Stream = record { id = i; kind = kind; numbers = x; pick = pick } in
    eqb i id ≡ true → size ≡ t.frame → 1 ≤ size → Fits book t.window st t.on_stream → n ≡ allowance w st →
    Pays book id t w (allowance_frames book size n st) n (after_sending n st)
unfolding allowance allowance_frames data_frames data_upto octets_waiting
own-allowance book id size w i kind x pick t zero own g h f e = rw (after-none (record { id = i; kind = kind; numbers = x; pick = pick })) (rests book id w i kind x pick t f (sym e))
own-allowance book id size w i kind x pick t (suc k) own g h f e = at kind x.body_remaining f e
  where
    at : (kd : StreamState) (o : Option ℕ) →
        let st : Stream = record { id = i; kind = kd; numbers = record x { body_remaining = o }; pick = pick } in
        Fits book t.window st t.on_stream → suc k ≡ allowance w st →
        Pays book id t w (allowance_frames book size (suc k) st) (suc k) (after_sending (suc k) st)
    at Idle o f e = absurd f
    at Skipped o f e = absurd f
    at BothOpen None f e = absurd (omega arith)
    at BothOpen (Some l) f e = rw (after-some k (record { id = i; kind = BothOpen; numbers = record x { body_remaining = Some l }; pick = pick })) (pays book id size k l t x (picked book pick).body g h f (omega arith) (omega arith) w i _ own e (both-fits book id size k l t x (picked book pick).body g h f (omega arith) (omega arith) i pick (eqb l (suc k)) refl refl))
    at HalfRemote None f e = absurd (omega arith)
    at HalfRemote (Some l) f e = rw (after-some k (record { id = i; kind = HalfRemote; numbers = record x { body_remaining = Some l }; pick = pick })) (pays book id size k l t x (picked book pick).body g h f (omega arith) (omega arith) w i _ own e (half-fits book id size k l t x (picked book pick).body g h f (omega arith) (omega arith) i pick (eqb l (suc k)) refl refl))
    at HalfLocal o f e = let none = ap octets_left f.2 in absurd (omega arith)
    at Ended o f e = absurd (omega arith)
    at PeerReset o f e = absurd (omega arith)
    at WeReset o f e = absurd (omega arith)

-- ---- all streams

or-false : (b : Bool) → (b || false) ≡ b
or-false true = refl
or-false false = refl

-- what sending leaves
record Sent (book : List Entry) (id : ℕ) (t : Tally) (w : ℕ) (sts : List Stream) (frames : List Frame) (streams : List Stream) (left : ℕ) : Type 0 where
  on_stream : StreamTally
  leads : Leads id t frames (record t { sent = t.sent + (w - left); on_stream = on_stream })
  agreed : FitsStreams book t.window id streams on_stream
  within : left ≤ w
  bodies : Bodies book streams
  promised : on_stream.promised ≡ t.on_stream.promised
  reset : on_stream.reset ≡ t.on_stream.reset
  absent : Absent id sts → (on_stream ≡ t.on_stream) × Absent id streams
  stream : When (sends_data id frames) (length on_stream.content ≤ t.window + on_stream.granted)
  held : is_unfinished on_stream ≡ true → (t.window + on_stream.granted ≤ length on_stream.content) ⊎ (w - left ≡ w)

sends : (book : List Entry) (id size : ℕ) (sts : List Stream) (t : Tally) (w : ℕ) → size ≡ t.frame → 1 ≤ size → FitsStreams book t.window id sts t.on_stream → Bodies book sts →
    Sent book id t w sts (sent_frames book size w sts) (all_after_sending w sts) (window_left w sts)
unfolding sent_frames all_after_sending window_left
sends book id size [] t w g h f b = record {
  on_stream = t.on_stream;
  leads = Leads-to id _ _ _ _ (nowhere id t) (ap (elsewhere t) (omega arith));
  agreed = f;
  within = omega arith;
  bodies = tt;
  promised = refl;
  reset = refl;
  absent = λ a. (refl, tt);
  stream = tt;
  held = λ u. absurd (not_begun t.on_stream f.headers u);
}
sends book id size (st ∷ sts) t w g h f b = at (λ x. sends book id size sts (elsewhere t (allowance w st)) (w - allowance w st) g h x b.1) (eqb st.id id) refl f
  where
    n : ℕ
    n = allowance w st

    front : List Frame
    front = allowance_frames book size n st

    back : List Frame
    back = sent_frames book size (w - n) sts

    rest : List Stream
    rest = all_after_sending (w - n) sts

    left : ℕ
    left = window_left (w - n) sts

    le : (n ≤ w) × (n ≤ octets_waiting st) × (n ≤ sendable st.numbers.send)
    le = allowance-le w st

    at : (FitsStreams book t.window id sts t.on_stream → Sent book id (elsewhere t n) (w - n) sts back rest left) →
        (c : Bool) → eqb st.id id ≡ c → Either c (Fits book t.window st t.on_stream × Absent id sts) (FitsStreams book t.window id sts t.on_stream) →
        Sent book id t w (st ∷ sts) (front ++ back) (after_sending n st ∷ rest) left
    at tail true e f =
        let one = own-allowance book id size w st.id st.kind st.numbers st.pick t n e g h f.0 refl in
        let u : Tally = record t { sent = t.sent + n; on_stream = one.on_stream } in
        let more = passes book id size sts u (w - n) g h f.1 b.1 in
        let sum : t.sent + n + (w - n - left) ≡ t.sent + (w - left) = omega (arith, le.0, more.within) in
        record {
          on_stream = one.on_stream;
          leads = Leads-to id _ _ _ _ (Leads-append id t u _ front back one.leads more.leads) (ap (λ k. record t { sent = k; on_stream = one.on_stream }) sum);
          agreed = rw (after-id n st, e) (one.fits, more.absent);
          within = omega (arith, le.0, more.within);
          bodies = (after-has_body book n st b.0, more.bodies);
          promised = one.promised;
          reset = one.reset;
          absent = λ a. absurd (both_ways (eqb st.id id) a.0 e);
          stream = rw (sends_data-append, more.quiet, or-false) one.stream;
          held = λ v. elim (one.held v) [ inl x ↦ inl x | inr y ↦ inr (omega (arith, more.within)) ];
        }
    at tail false e f =
        let one = allowance-elsewhere book id size n st t e g h b.0 le.1 in
        let more = tail f in
        let sum : t.sent + n + (w - n - left) ≡ t.sent + (w - left) = omega (arith, le.0, more.within) in
        record {
          on_stream = more.on_stream;
          leads = Leads-to id _ _ _ _ (Leads-append id t (elsewhere t n) _ front back one.0 more.leads) (ap (λ k. record t { sent = k; on_stream = more.on_stream }) sum);
          agreed = rw (after-id n st, e) more.agreed;
          within = omega (arith, le.0, more.within);
          bodies = (after-has_body book n st b.0, more.bodies);
          promised = more.promised;
          reset = more.reset;
          absent = λ a. ((more.absent a.1).0, (rw (after-id n st) e, (more.absent a.1).1));
          stream = rw (sends_data-append, one.1) more.stream;
          held = λ v. elim (more.held v) [ inl x ↦ inl x | inr y ↦ inr (omega (arith, le.0, more.within)) ];
        }

rises : (low high w : ℕ) (sts : List Stream) → Rise low high sts → Rise low high (all_after_sending w sts)
unfolding all_after_sending
rises low high w [] r = r
rises low high w (st ∷ sts) r = rw (after-id (allowance w st) st) (r.0, rises st.id high (w - allowance w st) sts r.1)

still-absent : (j w : ℕ) (sts : List Stream) → Absent j (all_after_sending w sts) → Absent j sts
unfolding all_after_sending
still-absent j w [] a = tt
still-absent j w (st ∷ sts) a = (rw (after-id (allowance w st) st) at a.0, still-absent j (w - allowance w st) sts a.1)

-- ---- the pump

-- what it leaves
pub record PendingSent (book : List Entry) (id : ℕ) (t : Tally) (p : Step) : Type 0 where
  pub right : AtEach (IsRight id) id t p.sent
  pub agrees : Agreement book id p.state (sent_all id t p.sent)
  pub stream : When (sends_data id p.sent) (IsWithinStream (sent_all id t p.sent))
  pub used_up : is_unfinished (sent_all id t p.sent).on_stream ≡ true → IsUsedUp (sent_all id t p.sent)

emptied : (z : ℤ) (sent granted left : ℕ) → z +ℤ pos sent ≡ pos (65535 + granted) → sent ≤ 65535 + granted → sendable z - left ≡ sendable z → sent + (sendable z - left) ≡ 65535 + granted
emptied (pos n) sent granted left e h g = omega (arith, ints)
emptied (negsuc n) sent granted left e h g = absurd (omega (arith, ints))

not_passed : (z : ℤ) (sent granted left : ℕ) → z +ℤ pos sent ≡ pos (65535 + granted) → sent ≤ 65535 + granted → sent + (sendable z - left) ≤ 65535 + granted
not_passed (pos n) sent granted left e h = omega (arith, ints)
not_passed (negsuc n) sent granted left e h = omega arith

pub sending-keeps : (book : List Entry) (id : ℕ) (s : State) (t : Tally) → Agreement book id s t → PendingSent book id t (send_pending s)
unfolding send_pending
sending-keeps book id s t x = at (subst (λ b. Sent book id t w s.streams (sent_frames b s.core.peer.frame w s.streams) streams left) (sym x.same_book)
    (sends book id s.core.peer.frame s.streams t w x.same_frame (rw x.same_frame x.some_frame) x.agreed x.bodies))
  where
    w : ℕ
    w = sendable s.core.send

    frames : List Frame
    frames = sent_frames s.book s.core.peer.frame w s.streams

    streams : List Stream
    streams = all_after_sending w s.streams

    left : ℕ
    left = window_left w s.streams

    after : State
    after = record s { streams = streams; core = record s.core { send = s.core.send -ℤ pos (w - left) } }

    at : Sent book id t w s.streams frames streams left → PendingSent book id t (record { state = after; sent = frames })
    at y =
        let u : Tally = record t { sent = t.sent + (w - left); on_stream = y.on_stream } in
        let agrees : Agreement book id after u = record {
          running = x.running;
          same_book = x.same_book;
          same_window = x.same_window;
          same_frame = x.same_frame;
          some_frame = x.some_frame;
          send_is = let e = x.send_is in omega (arith, ints);
          within = not_passed s.core.send t.sent t.granted left x.send_is x.within;
          agreed = y.agreed;
          bodies = y.bodies;
          ordered = rises 0 s.core.last w s.streams x.ordered;
          idle = λ h. let i = x.idle h in let a = y.absent i.1 in (a.0 ∙ i.0, a.1);
          of_block = FitsBlock-same id s.core.last s.streams streams s.block t.on_stream y.on_stream y.promised y.reset (λ j. still-recorded s.book j s.core.last s.streams streams (still-absent j w s.streams) (subst (λ b. Bodies b streams) (sym x.same_book) y.bodies)) x.of_block;
        } in
        let same : u ≡ sent_all id t frames = sym y.leads.tally in
        record {
          right = y.leads.right;
          agrees = subst (Agreement book id after) same agrees;
          stream = subst (λ v. When (sends_data id frames) (IsWithinStream v)) same y.stream;
          used_up = subst (λ (v : Tally). is_unfinished v.on_stream ≡ true → IsUsedUp v) same
              (λ h. elim (y.held h) [ inl a ↦ inr a | inr b ↦ inl (emptied s.core.send t.sent t.granted left x.send_is x.within b) ]);
        }
