-- A run that is reported place by place.
use Rattle.std.proofs.Common.{◌≡◌, ◌∙◌, ◌+◌, ◌<◌, ◌≤◌, ℕ, List, [], ◌∷◌, ◌++◌, length, drop, refl, sym, ap, ap₂, subst, arith, length-drop}
use Rattle.std.proofs.lemmas.List.{drop-drop}
use Rattle.h2_spec.specs.Frames.Frame.{frames_octets}
use Rattle.h2_spec.specs.Frames.Parse.{Front, Stop, One, Parsed, parse_all, parse_first}
use Rattle.h2_spec.specs.State.{State}
use Rattle.h2_spec.specs.Frames.Frame.{Next, NoItem, Got}
use Rattle.h2_spec.specs.Trace.{Event, event_on, next_event, next_item, trace}
use Rattle.h2_spec.specs.Texts.View.{view}
use Rattle.h2_spec.proofs.ParseLaws.{Uses, parse_all-step}
use Rattle.h2_spec.proofs.TraceLaws.{event-uses}
use Rattle.h2_conn.specs.Connection.{Connection, going}
use Rattle.h2_conn.specs.Runs.{TakesOne, Waits}
use Rattle.h2_cmd_play.specs.Places.{TakesItem, item_text, item_texts}

-- the events of a run
abbrev pub events : State → List ℕ → List Event
events s b = (parse_all next_event s b).elements

pub trace-events : (s : State) (b : List ℕ) → (trace s b).events ≡ events s b
unfolding trace
trace-events s b = refl

pub events-stop : (s : State) (b : List ℕ) → next_event s b ≡ Stop → events s b ≡ []
events-stop s b e =
    ap (λ (r : Parsed State Event). r.elements) (parse_all-step next_event event-uses s b ∙ ap (λ (x : Front State Event). parse_first s b x (λ t rest. parse_all next_event t rest)) e)

pub events-one : (s t : State) (b : List ℕ) (e : Event) (used : ℕ) → next_event s b ≡ One e t used → events s b ≡ e ∷ events t (drop used b)
events-one s t b e used h =
    ap (λ (r : Parsed State Event). r.elements) (parse_all-step next_event event-uses s b ∙ ap (λ (x : Front State Event). parse_first s b x (λ u rest. parse_all next_event u rest)) h)

items-none : (place : ℕ) → item_texts place [] ≡ []
unfolding item_texts
items-none place = refl

items-cons : (place : ℕ) (e : Event) (es : List Event) → item_texts place (e ∷ es) ≡ item_text place (frames_octets e.sent) (view e.state) ∷ item_texts (place + 1) es
unfolding item_texts
items-cons place e es = refl

pub item-within : (s : State) (octets : List ℕ) (at : ℕ) (c : Connection) (sent : List ℕ) (used : ℕ) → at ≤ length octets → TakesItem s (drop at octets) c sent used
    → (0 < used) × (at + used ≤ length octets)
item-within s octets at c sent used h x =
    let uses : Uses (drop at octets) (One x.event c.state used) = subst (λ (n : Front State Event). Uses (drop at octets) n) x.comes (event-uses s (drop at octets)) in
    (uses.0, omega (arith, h, uses.1, length-drop at octets))

-- the next place of a run is its next item
pub item-next : (s : State) (octets : List ℕ) (at place : ℕ) (c : Connection) (sent : List ℕ) (used : ℕ) → TakesItem s (drop at octets) c sent used
    → item_texts place (events s (drop at octets)) ≡ item_text place sent (view c.state) ∷ item_texts (place + 1) (events c.state (drop (at + used) octets))
item-next s octets at place c sent used x =
    let later : List Event = events c.state (drop (at + used) octets) in
    let one : events s (drop at octets) ≡ x.event ∷ later =
    events-one s c.state (drop at octets) x.event used x.comes ∙ ap (λ (r : List ℕ). x.event ∷ events c.state r) (drop-drop used at octets) in
    ap (item_texts place) one ∙ items-cons place x.event later
    ∙ ap₂ (λ (sent : List ℕ) (t : State). item_text place sent (view t) ∷ item_texts (place + 1) later) (sym x.sent_is) x.state

pub none-next : (s : State) (b : List ℕ) (place : ℕ) → next_event s b ≡ Stop → item_texts place (events s b) ≡ []
none-next s b place e = ap (item_texts place) (events-stop s b e) ∙ items-none place

same-state : State → Front State Event → Type 0
same-state s Stop = Unit {0}
same-state s (One e t used) = e.state ≡ t

event-same : (s : State) (n : Next) → same-state s (event_on s n)
unfolding same-state
event-same s NoItem = tt
event-same s (Got x used) = refl

pub event-state : (s t : State) (b : List ℕ) (e : Event) (used : ℕ) → next_event s b ≡ One e t used → e.state ≡ t
unfolding next_event same-state
event-state s t b e used h = subst (same-state s) h (event-same s (next_item s b))

-- one item that was taken from octets alone
pub taken-alone : (c c' : Connection) (octets : List ℕ) (sent : List ℕ) (used : ℕ) → c ≡ going c.state [] → TakesOne c octets [] c' sent used → TakesItem c.state octets c' sent used
taken-alone c c' octets sent used fresh x =
    let empty : c.rest ≡ [] = ap (λ (d : Connection). d.rest) fresh in
    let state : c'.state ≡ x.next = ap (λ (d : Connection). d.state) x.after in
    let comes : next_event c.state octets ≡ One x.event x.next x.taken = ap (λ (r : List ℕ). next_event c.state (r ++ octets)) (sym empty) ∙ x.comes in
    let count : used ≡ x.taken = omega (arith, x.used_is, ap length empty) in
    record {
      event = x.event;
      comes = rw (state, count) comes;
      state = event-state c.state x.next octets x.event x.taken comes ∙ sym state;
      after = x.after ∙ ap (λ (t : State). going t []) (sym state);
      sent_is = x.sent;
    }

-- where octets alone have no item
pub none-alone : (c c' : Connection) (octets out : List ℕ) (used : ℕ) → c ≡ going c.state [] → Waits c octets [] c' out used → next_event c.state octets ≡ Stop
none-alone c c' octets out used fresh x = ap (λ (d : Connection). next_event c.state (d.rest ++ octets)) (sym fresh) ∙ x.none
