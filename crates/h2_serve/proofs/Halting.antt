-- Runs over octets that are fed in two pieces; out of memory, the second piece is not handled to its end.
use Rattle.std.proofs.Common.{◌≡◌, ◌∙◌, ℕ, zero, suc, ◌+◌, ◌≤◌, List, [], ◌∷◌, ◌++◌, length, take, drop, arith, length-append, length-drop, refl, sym, ap, append_assoc}
use Rattle.std.proofs.lemmas.List.{take-append-le}
use Rattle.h2_spec.specs.Texts.Debug.{state_at}
use Rattle.h2_spec.specs.Frames.Frame.{Next, NoItem, Got, frames_octets}
use Rattle.h2_spec.specs.Frames.Parse.{Front, Stop, One, Parsed, parse_all, parse_first}
use Rattle.h2_spec.specs.State.{State}
use Rattle.h2_spec.specs.Trace.{Event, Run, carried_on, event_on, next_event, next_item, sent_octets, trace}
use Rattle.h2_spec.proofs.ParseLaws.{Uses, parse_all-step}
use Rattle.h2_spec.proofs.TraceLaws.{event-uses, trace-append}
use Rattle.h2_conn.specs.Connection.{Connection, going, halted}
use Rattle.h2_conn.specs.Runs.{Fed, Halts, fed}

-- ---- what is sent for items

sent-cons : (e : Event) (es : List Event) → sent_octets (e ∷ es) ≡ frames_octets e.sent ++ sent_octets es
unfolding sent_octets
sent-cons e es = refl

pub sent-none : sent_octets [] ≡ []
unfolding sent_octets
sent-none = refl

sent-append : (es fs : List Event) → sent_octets (es ++ fs) ≡ sent_octets es ++ sent_octets fs
sent-append [] fs = rw sent-none refl
sent-append (e ∷ es) fs = rw (
  sent-cons e (es ++ fs),
  sent-cons e es,
  sent-append es fs,
) (sym (append_assoc (frames_octets e.sent) (sent_octets es) (sent_octets fs)))

-- ---- the state after items

event-after : (s t : State) (x : Next) (e : Event) (used : ℕ) → event_on s x ≡ One e t used → e.state ≡ t
event-after s t NoItem e used h = cc
event-after s t (Got item n) e used h = cc

one-after : (s t : State) (b : List ℕ) (e : Event) (used : ℕ) → next_event s b ≡ One e t used → e.state ≡ t
unfolding next_event
one-after s t b e used h = event-after s t (next_item s b) e used h

abbrev IsLast : State → Parsed State Event → Type 0
IsLast s p = state_at s p.elements (length p.elements) ≡ p.state

last-of : (n : ℕ) (s : State) (b : List ℕ) → length b ≤ n → IsLast s (parse_all next_event s b)
last-of zero s b h = rw (parse_all-step next_event event-uses s b) (at (next_event s b) (event-uses s b))
  where
    at : (x : Front State Event) → Uses b x → IsLast s (parse_first s b x (λ t rest. parse_all next_event t rest))
    at Stop u = refl
    at (One e t used) u = absurd (omega (arith, h, u.0, u.1))
last-of (suc n) s b h =
    rw (parse_all-step next_event event-uses s b) (at (λ t c. last-of n t c) (next_event s b) (event-uses s b) refl)
  where
    at : ((t : State) (c : List ℕ) → length c ≤ n → IsLast t (parse_all next_event t c)) →
        (x : Front State Event) → Uses b x → next_event s b ≡ x
        → IsLast s (parse_first s b x (λ t rest. parse_all next_event t rest))
    at more Stop u g = refl
    at more (One e t used) u g =
        let shorter = length-drop used b in
        let p : Parsed State Event = parse_all next_event t (drop used b) in
        ap (λ (r : State). state_at r p.elements (length p.elements)) (one-after s t b e used g)
        ∙ more t (drop used b) (omega (arith, h, u.0, u.1, shorter))

-- the last state of a run
pub last-state : (s : State) (b : List ℕ)
    → state_at s (trace s b).events (length (trace s b).events) ≡ (trace s b).state
unfolding trace
last-state s b = last-of (length b) s b (omega arith)

state-behind : (s : State) (es fs : List Event) (k : ℕ)
    → state_at s (es ++ fs) (length es + k) ≡ state_at (state_at s es (length es)) fs k
state-behind s [] fs k = ap (state_at s fs) (omega arith)
state-behind s (e ∷ es) fs k =
    let next : length (e ∷ es) + k ≡ suc (length es + k) = omega arith in
    ap (state_at s (e ∷ es ++ fs)) next ∙ state-behind e.state es fs k

take-behind : (es fs : List Event) (k : ℕ) → take (length es + k) (es ++ fs) ≡ es ++ take k fs
take-behind [] fs k = ap (λ n. take n fs) (omega arith)
take-behind (e ∷ es) fs k =
    let next : length (e ∷ es) + k ≡ suc (length es + k) = omega arith in
    ap (λ n. take n (e ∷ es ++ fs)) next ∙ ap (λ (xs : List Event). e ∷ xs) (take-behind es fs k)

-- ---- octets in two pieces

pub both : (c c' : Connection) (q q' : List ℕ) → c' ≡ going (fed c q).state (fed c q).rest
    → fed c (q ++ q') ≡ record {
      events = (fed c q).events ++ (fed c' q').events;
      state = (fed c' q').state;
      rest =
          (fed c' q').rest;
    }
unfolding carried_on
both c c' q q' h = rw h (ap (trace c.state) (sym (append_assoc c.rest q q')) ∙ trace-append c.state (c.rest ++ q) q')

pub fed-more : (c c' c'' : Connection) (q q' out out' out'' : List ℕ) → Fed c q out c' out' → Fed c' q' out' c'' out''
    → Fed c (q ++ q') out c'' out''
fed-more c c' c'' q q' out out' out'' x y =
    let sum = both c c' q q' x.1.after in (
      x.0 + y.0,
      record {
        items = rw sum (omega (arith, x.1.items, y.1.items, length-append (fed c q).events (fed c' q').events));
        after = y.1.after ∙ ap (λ (r : Run). going r.state r.rest) (sym sum);
        sent = y.1.sent ∙ rw (
          sum,
          sent-append (fed c q).events (fed c' q').events,
          x.1.sent,
        ) (append_assoc out (sent_octets (fed c q).events) (sent_octets (fed c' q').events));
      },
    )

-- all items were handled with the first piece, and only some first ones with the second
pub fed-halts : (c c' c'' : Connection) (q q' out out' out'' : List ℕ) → Fed c q out c' out'
    → Halts c' q' out' c'' out'' → Halts c (q ++ q') out c'' out''
fed-halts c c' c'' q q' out out' out'' x y =
    let es : List Event = (fed c q).events in
    let fs : List Event = (fed c' q').events in
    let sum : (fed c (q ++ q')).events ≡ es ++ fs = ap (λ (r : Run). r.events) (both c c' q q' x.1.after) in
    let first : state_at c.state es (length es) ≡ c'.state = last-state c.state (c.rest ++ q)
    ∙ ap (λ (d : Connection). d.state) (sym x.1.after) in
    record {
      items = length es + y.items;
      within = rw sum (omega (arith, y.within, length-append es fs));
      after = y.after ∙ ap halted (sym (rw (sum, state-behind c.state es fs y.items, first) refl));
      sent = y.sent ∙ rw (
        sum,
        take-behind es fs y.items,
        sent-append es (take y.items fs),
        x.1.sent,
      ) (append_assoc out (sent_octets es) (sent_octets (take y.items fs)));
    }

-- ---- more octets than were handled

state-before : (s : State) (es more : List Event) (n : ℕ) → n ≤ length es → state_at s (es ++ more) n ≡ state_at s es n
state-before s es more zero h = refl
state-before s [] more (suc n) h = absurd (omega (arith, h))
state-before s (e ∷ es) more (suc n) h = state-before e.state es more n (omega (arith, h))

-- what was handled before memory was refused are first items of more octets too
pub halts-more : (c c' : Connection) (q q' out out' : List ℕ) → Halts c q out c' out' → Halts c (q ++ q') out c' out'
halts-more c c' q q' out out' x =
    let es : List Event = (fed c q).events in
    let last : Connection = going (fed c q).state (fed c q).rest in
    let fs : List Event = (fed last q').events in
    let sum : (fed c (q ++ q')).events ≡ es ++ fs = ap (λ (r : Run). r.events) (both c last q q' refl) in
    record {
      items = x.items;
      within = rw sum (omega (arith, x.within, length-append es fs));
      after = x.after ∙ ap halted (sym (rw sum (state-before c.state es fs x.items x.within)));
      sent = x.sent ∙ ap (λ (l : List Event). out ++ sent_octets l) (sym (rw sum (take-append-le x.items es fs x.within)));
    }
