-- Runs of items, one item after another and one piece of octets after another.
use Rattle.std.proofs.Common.{◌≡◌, ◌∙◌, ℕ, zero, suc, Bool, true, false, List, [], ◌∷◌, ◌++◌, length, drop, ◌≤◌, ◌+◌, take, arith, length-drop, refl, sym, ap, append_assoc, true≢false, Result, Ok, Err, OnErr}
use Rattle.std.proofs.lemmas.List.{append-nil}
use Rattle.h2_spec.specs.Texts.Debug.{state_at}
use Rattle.h2_spec.specs.Frames.Frame.{frames_octets}
use Rattle.h2_spec.specs.State.{State}
use Rattle.h2_spec.specs.Frames.Parse.{Front, Stop, One, Parsed, parse_all, parse_first, after_one}
use Rattle.h2_spec.specs.declared.connection.Config.{Config}
use Rattle.h2_spec.specs.declared.connection.Phase.{Phase}
use Rattle.h2_spec.specs.declared.connection.Phase.TheVariants as phase
use Rattle.h2_spec.specs.Requests.Answer.{Entry}
use Rattle.h2_spec.specs.Frames.Frame.{Next, NoItem, Got, next}
use Rattle.h2_spec.specs.State.{opening}
use Rattle.h2_spec.specs.Trace.{Event, Run, event_on, left_by, next_event, next_item, sent_octets, trace}
use Rattle.h2_spec.specs.Texts.View.{view}
use Rattle.h2_spec.proofs.ParseLaws.{parse_all-step}
use Rattle.h2_spec.proofs.TraceLaws.{event-uses}
use Rattle.h2_conn.specs.Connection.{connection, going, halted, is_ended}
use Rattle.h2_conn.specs.Runs.{Feeds, Halted, Halts, Leads, Ran, Takes}
use Rattle.h2_conn.proofs.Items.{none-after}

-- the whole run
abbrev pub whole : State → List ℕ → Parsed State Event
whole s b = parse_all next_event s b

pub sent-cons : (e : Event) (es : List Event) → sent_octets (e ∷ es) ≡ frames_octets e.sent ++ sent_octets es
unfolding sent_octets
sent-cons e es = refl

pub sent-none : sent_octets [] ≡ []
unfolding sent_octets
sent-none = refl

pub sent-append : (es fs : List Event) → sent_octets (es ++ fs) ≡ sent_octets es ++ sent_octets fs
sent-append [] fs = rw sent-none refl
sent-append (e ∷ es) fs = rw (sent-cons e (es ++ fs), sent-cons e es, sent-append es fs) (sym (append_assoc (frames_octets e.sent) (sent_octets es) (sent_octets fs)))

-- a run that is at its end, and one with a first item
pub whole-stop : (s : State) (b : List ℕ) → next_event s b ≡ Stop → whole s b ≡ record { elements = []; state = s; rest = b }
whole-stop s b e = parse_all-step next_event event-uses s b ∙ ap (λ (x : Front State Event). parse_first s b x (λ t rest. whole t rest)) e

pub whole-one : (s t : State) (b : List ℕ) (event : Event) (used : ℕ) → next_event s b ≡ One event t used → whole s b ≡ after_one event (whole t (drop used b))
whole-one s t b event used e = parse_all-step next_event event-uses s b ∙ ap (λ (x : Front State Event). parse_first s b x (λ t rest. whole t rest)) e

-- ---- some first events, and the next one

next-within : (n : ℕ) (es more : List Event) (e : Event) → drop n es ≡ e ∷ more → n + 1 ≤ length es
next-within n es more e h = omega (arith, length-drop n es, ap length h)

next-later : (n : ℕ) (es more : List Event) (e : Event) → drop n es ≡ e ∷ more → drop (suc n) es ≡ more
next-later zero [] more e h = cc
next-later zero (x ∷ xs) more e h = cc
next-later (suc n) [] more e h = cc
next-later (suc n) (x ∷ xs) more e h = next-later n xs more e h

next-taken : (n : ℕ) (es more : List Event) (e : Event) → drop n es ≡ e ∷ more → take (suc n) es ≡ take n es ++ e ∷ []
next-taken zero [] more e h = cc
next-taken zero (x ∷ xs) more e h = let same : x ≡ e = cc in ap (λ y. y ∷ []) same
next-taken (suc n) [] more e h = cc
next-taken (suc n) (x ∷ xs) more e h = ap (λ ys. x ∷ ys) (next-taken n xs more e h)

next-state : (s : State) (n : ℕ) (es more : List Event) (e : Event) → drop n es ≡ e ∷ more → state_at s es (suc n) ≡ e.state
next-state s zero [] more e h = cc
next-state s zero (x ∷ xs) more e h = let same : x ≡ e = cc in rw same refl
next-state s (suc n) [] more e h = cc
next-state s (suc n) (x ∷ xs) more e h = next-state x.state n xs more e h

-- ---- one item after another

pub leads-refl : (s : State) (b out : List ℕ) → Leads s b out 0 s b out
leads-refl s b out = record { within = omega arith; later = refl; last = refl; rest = refl; after = refl; sent = rw sent-none (sym (append-nil out)) }

pub leads-takes : (s t u : State) (n : ℕ) (b c d out out' out'' : List ℕ) → Leads s b out n t c out' → Takes t c out' u d out'' → Leads s b out (n + 1) u d out''
leads-takes s t u n b c d out out' out'' l x =
    let one : whole t c ≡ after_one x.event (whole u d) = rw x.rest (whole-one t u c x.event x.used x.comes) in
    let es : List Event = (whole s b).elements in
    let first : drop n es ≡ x.event ∷ (whole u d).elements = l.later ∙ ap (λ (r : Parsed State Event). r.elements) one in
    let next : n + 1 ≡ suc n = omega arith in
    record {
      within = next-within n es (whole u d).elements x.event first;
      later = rw next (next-later n es (whole u d).elements x.event first);
      last = l.last ∙ ap (λ (r : Parsed State Event). r.state) one;
      rest = l.rest ∙ ap (λ (r : Parsed State Event). r.rest) one;
      after = rw next (next-state s n es (whole u d).elements x.event first ∙ x.after);
      sent = rw (next, next-taken n es (whole u d).elements x.event first, sent-append (take n es) (x.event ∷ []), sent-cons x.event [], sent-none, append-nil (frames_octets x.event.sent))
          (x.sent ∙ ap (λ (o : List ℕ). o ++ frames_octets x.event.sent) l.sent ∙ append_assoc out (sent_octets (take n es)) (frames_octets x.event.sent));
    }

none-later : (n : ℕ) (es : List Event) → n ≤ length es → drop n es ≡ [] → n ≡ length es
none-later n es w h = omega (arith, length-drop n es, ap length h)

take-all : (es : List Event) → take (length es) es ≡ es
take-all [] = refl
take-all (e ∷ es) = ap (λ xs. e ∷ xs) (take-all es)

pub leads-stop : (s t : State) (n : ℕ) (b c out out' : List ℕ) → Leads s b out n t c out' → next_event t c ≡ Stop → Ran s b out t c out' n
leads-stop s t n b c out out' l e =
    let none : whole t c ≡ record { elements = []; state = t; rest = c } = whole-stop t c e in
    let all : n ≡ length (whole s b).elements = none-later n (whole s b).elements l.within (l.later ∙ ap (λ (r : Parsed State Event). r.elements) none) in
    record {
      items = all;
      state = l.last ∙ ap (λ (r : Parsed State Event). r.state) none;
      rest = l.rest ∙ ap (λ (r : Parsed State Event). r.rest) none;
      sent = l.sent ∙ ap (λ (m : ℕ). out ++ sent_octets (take m (whole s b).elements)) all ∙ ap (λ (es : List Event). out ++ sent_octets es) (take-all (whole s b).elements);
      after = l.after;
      stops = e;
    }

-- ---- between two calls

pub left-going : (p : Phase) (b : List ℕ) → is_ended p ≡ false → left_by p b ≡ b
left-going phase.Preface b h = refl
left-going phase.Settings b h = refl
left-going phase.Running b h = refl
left-going (phase.Ended code) b h = absurd (true≢false h)

pub left-ended : (p : Phase) (b : List ℕ) → is_ended p ≡ true → left_by p b ≡ []
left-ended phase.Preface b h = absurd (true≢false (sym h))
left-ended phase.Settings b h = absurd (true≢false (sym h))
left-ended phase.Running b h = absurd (true≢false (sym h))
left-ended (phase.Ended code) b h = refl

-- after the end no octets are left of any
pub left-same : (p : Phase) (b c : List ℕ) → is_ended p ≡ true → left_by p b ≡ left_by p c
left-same p b c h = left-ended p b h ∙ sym (left-ended p c h)

pub trace-stop : (s : State) (b : List ℕ) → next_event s b ≡ Stop → trace s b ≡ record { events = []; state = s; rest = left_by s.core.phase b }
unfolding trace
trace-stop s b e = let none = whole-stop s b e in rw none refl

-- after the end nothing comes
pub ended-feeds : (s : State) (octets q out : List ℕ) → is_ended s.core.phase ≡ true
    → Feeds (going s (left_by s.core.phase octets)) q out (going s (left_by s.core.phase octets)) out 0
ended-feeds s octets q out h =
    let b : List ℕ = left_by s.core.phase octets ++ q in
    let none : trace s b ≡ record { events = []; state = s; rest = left_by s.core.phase b } = trace-stop s b (none-after s b h) in
    record {
      items = ap (λ (r : Run). length r.events) (sym none);
      after = ap (going s) (left-ended s.core.phase octets h ∙ sym (left-ended s.core.phase b h)) ∙ ap (λ (r : Run). going r.state r.rest) (sym none);
      sent = sym (ap (λ (r : Run). out ++ sent_octets r.events) none ∙ rw sent-none (append-nil out));
    }

pub ran-feeds : (s t : State) (rest q out c out' : List ℕ) (n : ℕ) → Ran s (rest ++ q) out t c out' n → Feeds (going s rest) q out (going t (left_by t.core.phase c)) out' n
unfolding trace
ran-feeds s t rest q out c out' n x = record { items = x.items; after = rw (x.state, x.rest) refl; sent = x.sent }

-- all items are some first ones
pub ran-halted : (s t : State) (b out c out' : List ℕ) (n : ℕ) → Ran s b out t c out' n → Halted s b out t out'
ran-halted s t b out c out' n x = record {
  items = n;
  within = omega (arith, x.items);
  after = sym x.after;
  sent = x.sent ∙ ap (λ (es : List Event). out ++ sent_octets es) (sym (ap (λ (m : ℕ). take m (whole s b).elements) x.items ∙ take-all (whole s b).elements));
}

pub halted-halts : (s t : State) (rest q out out' : List ℕ) → Halted s (rest ++ q) out t out' → Halts (going s rest) q out (halted t) out'
unfolding trace
halted-halts s t rest q out out' x = record {
  items = x.items;
  within = x.within;
  after = ap (λ (u : State). record { state = u; rest = []; failed = true }) x.after;
  sent = x.sent;
}

-- where the connection goes on after a run, it did before it
pub ran-goes : (s t : State) (b out c out' : List ℕ) (n : ℕ) → Ran s b out t c out' n → is_ended t.core.phase ≡ false → is_ended s.core.phase ≡ false
ran-goes s t b out c out' n x goes = at (is_ended s.core.phase) refl
  where
    at : (e : Bool) → is_ended s.core.phase ≡ e → is_ended s.core.phase ≡ false
    at false e = e
    at true e =
        let same : s ≡ t = sym (ap (λ (r : Parsed State Event). r.state) (whole-stop s b (none-after s b e))) ∙ x.state in
        absurd (true≢false (sym e ∙ ap (λ (u : State). is_ended u.core.phase) same ∙ goes))

pub halts-at-once : (s : State) (rest q out : List ℕ) → Halts (going s rest) q out (halted s) out
halts-at-once s rest q out = record { items = 0; within = omega arith; after = refl; sent = rw sent-none (sym (append-nil out)) }

no-item : (s : State) (x : Next) → event_on s x ≡ Stop → x ≡ NoItem
no-item s NoItem h = refl
no-item s (Got x used) h = cc

pub stop-none : (s : State) (b : List ℕ) → next_event s b ≡ Stop → next_item s b ≡ NoItem
unfolding next_event
stop-none s b h = no-item s (next_item s b) h

-- a new connection awaits the preface
pub opening-none : (book : List Entry) (config : Config) → next_item (opening book config) [] ≡ NoItem
unfolding next_item next
opening-none book config = refl

-- ---- what is shown

-- what is shown of a connection is what its state shows
pub connection-view : (failed : Bool) (s : State) (octets : List ℕ) → view (connection failed s octets).state ≡ view s
connection-view false s octets = refl
connection-view true s octets = refl

-- ---- results

pub if_err : {T E P : Type 0} (r : Result T E) → P → OnErr r P
if_err (Ok x) p = tt
if_err (Err e) p = p
