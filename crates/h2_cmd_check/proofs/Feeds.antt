-- More octets after those of a run: what is seen then.
use Rattle.std.proofs.Common.{◌≡◌, ◌∙◌, ◌++◌, ◌≤◌, ℕ, zero, suc, List, [], ◌∷◌, length, drop, refl, sym, ap, ap₂, arith, length-drop}
use Rattle.std.proofs.lemmas.List.{drop-append-le}
use Rattle.h2_spec.specs.Frames.Frame.{Next, NoItem, Got}
use Rattle.h2_spec.specs.Frames.Parse.{Front, Stop, One, Parsed, parse_all}
use Rattle.h2_spec.specs.State.{State}
use Rattle.h2_spec.specs.Trace.{Event, event_on, next_event, next_item, trace}
use Rattle.h2_spec.proofs.ParseLaws.{Uses}
use Rattle.h2_spec.proofs.TraceLaws.{event-uses, events-append}
use Rattle.h2_cmd_check.specs.ItemsTaken.{Sight, no_item, sight, with_item, with_items}
use Rattle.h2_cmd_check.proofs.Items.{front}

-- the state after the last of these events
abbrev pub ended : State → List Event → State
ended s [] = s
ended s (e ∷ es) = ended e.state es

state_on : (s : State) (n : Next) (e : Event) (t : State) (used : ℕ) → event_on s n ≡ One e t used → e.state ≡ t
state_on s NoItem e t used comes = cc
state_on s (Got item n) e t used comes = cc

event_state : (s : State) (b : List ℕ) (e : Event) (t : State) (used : ℕ) → next_event s b ≡ One e t used → e.state ≡ t
unfolding next_event
event_state s b e t used comes = state_on s (next_item s b) e t used comes

-- it is the state of the run
last_state : (n : ℕ) (s : State) (b : List ℕ) → length b ≤ n → ended s (parse_all next_event s b).elements ≡ (parse_all next_event s b).state
last_state zero s b h = at (next_event s b) (event-uses s b) refl
  where
    at : (x : Front State Event) → Uses b x → next_event s b ≡ x → ended s (parse_all next_event s b).elements ≡ (parse_all next_event s b).state
    at Stop u g = rw (front s b Stop g) refl
    at (One e t used) u g = absurd (omega arith)
last_state (suc n) s b h = at (λ t d. last_state n t d) (next_event s b) (event-uses s b) refl
  where
    at : ((t : State) (d : List ℕ) → length d ≤ n → ended t (parse_all next_event t d).elements ≡ (parse_all next_event t d).state)
        → (x : Front State Event) → Uses b x → next_event s b ≡ x → ended s (parse_all next_event s b).elements ≡ (parse_all next_event s b).state
    at more Stop u g = rw (front s b Stop g) refl
    at more (One e t used) u g =
        let shorter = length-drop used b in
        rw (front s b (One e t used) g)
        (ap (λ (x : State). ended x (parse_all next_event t (drop used b)).elements) (event_state s b e t used g) ∙ more t (drop used b) (omega arith))

with_items-append : (s : State) (seen : Sight) (es fs : List Event) → with_items s seen (es ++ fs) ≡ with_items (ended s es) (with_items s seen es) fs
with_items-append s seen [] fs = refl
with_items-append s seen (e ∷ es) fs = with_items-append e.state (with_item s seen e) es fs

-- the run from where the octets before have led
key : (s t : State) (octets more : List ℕ) (at : ℕ) → at ≤ length octets
    → (parse_all next_event s octets).state ≡ t → (parse_all next_event s octets).rest ≡ drop at octets
    → parse_all next_event (parse_all next_event s octets).state ((parse_all next_event s octets).rest ++ more) ≡ parse_all next_event t (drop at (octets ++ more))
key s t octets more at h state rest =
    ap₂ (λ (x : State) (r : List ℕ). parse_all next_event x (r ++ more)) state rest ∙ ap (λ (r : List ℕ). parse_all next_event t r) (sym (drop-append-le at octets more h))

pub state_fed : (s t t' : State) (octets more : List ℕ) (at : ℕ) → at ≤ length octets
    → (parse_all next_event s octets).state ≡ t → (parse_all next_event s octets).rest ≡ drop at octets
    → (parse_all next_event t (drop at (octets ++ more))).state ≡ t'
    → (parse_all next_event s (octets ++ more)).state ≡ t'
state_fed s t t' octets more at h state rest after =
    ap (λ (r : Parsed State Event). r.state) (events-append s octets more)
    ∙ ap (λ (r : Parsed State Event). r.state) (key s t octets more at h state rest) ∙ after

pub rest_fed : (s t : State) (octets more : List ℕ) (at at' : ℕ) → at ≤ length octets
    → (parse_all next_event s octets).state ≡ t → (parse_all next_event s octets).rest ≡ drop at octets
    → (parse_all next_event t (drop at (octets ++ more))).rest ≡ drop at' (octets ++ more)
    → (parse_all next_event s (octets ++ more)).rest ≡ drop at' (octets ++ more)
rest_fed s t octets more at at' h state rest after =
    ap (λ (r : Parsed State Event). r.rest) (events-append s octets more)
    ∙ ap (λ (r : Parsed State Event). r.rest) (key s t octets more at h state rest) ∙ after

pub seen_fed : (s t : State) (sent octets more : List ℕ) (at : ℕ) (seen seen' : Sight) → at ≤ length octets
    → (parse_all next_event s octets).state ≡ t → (parse_all next_event s octets).rest ≡ drop at octets
    → seen ≡ sight s sent octets
    → seen' ≡ with_items t seen (parse_all next_event t (drop at (octets ++ more))).elements
    → seen' ≡ sight s sent (octets ++ more)
unfolding sight trace
seen_fed s t sent octets more at seen seen' h state rest before after =
    let p = parse_all next_event s octets in
    let whole = ap (λ (r : Parsed State Event). with_items s (no_item sent) r.elements) (events-append s octets more) in
    let parts = with_items-append s (no_item sent) p.elements (parse_all next_event p.state (p.rest ++ more)).elements in
    let from = ap (λ (x : State). with_items x (with_items s (no_item sent) p.elements) (parse_all next_event p.state (p.rest ++ more)).elements) (last_state (length octets) s octets (omega arith) ∙ state) in
    let over = ap (λ (r : Parsed State Event). with_items t (with_items s (no_item sent) p.elements) r.elements) (key s t octets more at h state rest) in
    let with = ap (λ (x : Sight). with_items t x (parse_all next_event t (drop at (octets ++ more))).elements) before in
    after ∙ with ∙ sym (whole ∙ parts ∙ from ∙ over)
