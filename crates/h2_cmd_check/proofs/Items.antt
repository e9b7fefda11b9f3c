-- The next item of a run, and what is seen of it.
use Rattle.std.proofs.Common.{◌≡◌, ◌∙◌, ◌++◌, ◌+◌, ℕ, List, ◌∷◌, Option, Some, drop, refl, sym, ap}
use Rattle.std.proofs.lemmas.List.{drop-drop}
use Rattle.h2_spec.specs.Effect.{cause_of}
use Rattle.h2_spec.specs.Frames.Frame.{Item, Next, NoItem, Got, frames_octets}
use Rattle.h2_spec.specs.Causes.Ignored.{ignored_of}
use Rattle.h2_spec.specs.Frames.Parse.{Front, Stop, One, Parsed, parse_all, parse_first}
use Rattle.h2_spec.specs.State.{State}
use Rattle.h2_spec.specs.Trace.{Event, event_on, next_event, next_item, step}
use Rattle.h2_spec.specs.declared.causes.Cause.{Cause}
use Rattle.h2_spec.specs.declared.ignored.Ignored.{Ignored}
use Rattle.h2_spec.proofs.ParseLaws.{parse_all-step}
use Rattle.h2_spec.proofs.TraceLaws.{event-uses}
use Rattle.h2_conn.specs.Reports.{report_of, reported}
use Rattle.h2_conn.specs.declared.report.TakenItem.{TakenItem}
use Rattle.h2_cmd_check.specs.ItemsTaken.{Sight, cause_or, with_item, with_items}

-- the event of an item
abbrev made : State → Item → Event
made s item = record { item = item; state = (step s item).state; sent = (step s item).sent }

-- what is reported of an item is said about its event
pub record IsOf (s : State) (e : Event) (t : State) (taken : TakenItem) : Type 0 where
  pub state : e.state ≡ t
  pub cause : taken.cause ≡ cause_of s e.item
  pub ignored : taken.ignored ≡ ignored_of s e.item

said_of : (s : State) (n : Next) (e : Event) (t : State) (used : ℕ) (taken : TakenItem) → event_on s n ≡ One e t used → Some taken ≡ reported s n → IsOf s e t taken
said_of s NoItem e t used taken comes said = absurd (cc)
said_of s (Got item n) e t used taken comes said =
    let same : made s item ≡ e = cc in
    let after : (step s item).state ≡ t = cc in
    let report : taken ≡ report_of s item n = cc in
    record {
      state = ap (λ (x : Event). x.state) (sym same) ∙ after;
      cause = ap (λ (x : TakenItem). x.cause) report ∙ ap (λ (x : Event). cause_of s x.item) same;
      ignored = ap (λ (x : TakenItem). x.ignored) report ∙ ap (λ (x : Event). ignored_of s x.item) same;
    }

pub item_said : (s : State) (b : List ℕ) (e : Event) (t : State) (used : ℕ) (taken : TakenItem) → next_event s b ≡ One e t used → Some taken ≡ reported s (next_item s b) → IsOf s e t taken
unfolding next_event
item_said s b e t used taken comes said = said_of s (next_item s b) e t used taken comes said

abbrev pub sight_of : ℕ → List ℕ → Option Cause → Option Cause → Option Ignored → Sight
sight_of items sent first cause ignored = record { items = items; sent = sent; first = first; cause = cause; ignored = ignored }

-- the sight that a value has after an item
pub sight_with : (s : State) (seen : Sight) (e : Event) (items : ℕ) (sent : List ℕ) (first cause : Option Cause) (ignored : Option Ignored)
    → items ≡ seen.items + 1 → sent ≡ seen.sent ++ frames_octets e.sent → first ≡ cause_or seen.first cause → cause ≡ cause_of s e.item → ignored ≡ ignored_of s e.item
    → sight_of items sent first cause ignored ≡ with_item s seen e
sight_with s seen e items sent first cause ignored n p f q r = rw (n, p, f, q, r) refl

-- ---- the run from the next item on

pub front : (s : State) (b : List ℕ) (n : Front State Event) → next_event s b ≡ n → parse_all next_event s b ≡ parse_first s b n (λ t rest. parse_all next_event t rest)
front s b n e = parse_all-step next_event event-uses s b ∙ ap (λ (x : Front State Event). parse_first s b x (λ t rest. parse_all next_event t rest)) e

pub state_next : (s t : State) (octets : List ℕ) (at used : ℕ) (e : Event) → next_event s (drop at octets) ≡ One e t used
    → (parse_all next_event s (drop at octets)).state ≡ (parse_all next_event t (drop (at + used) octets)).state
state_next s t octets at used e h =
    ap (λ (r : Parsed State Event). r.state) (front s (drop at octets) (One e t used) h)
    ∙ ap (λ (r : List ℕ). (parse_all next_event t r).state) (drop-drop used at octets)

pub rest_next : (s t : State) (octets : List ℕ) (at used : ℕ) (e : Event) → next_event s (drop at octets) ≡ One e t used
    → (parse_all next_event s (drop at octets)).rest ≡ (parse_all next_event t (drop (at + used) octets)).rest
rest_next s t octets at used e h =
    ap (λ (r : Parsed State Event). r.rest) (front s (drop at octets) (One e t used) h)
    ∙ ap (λ (r : List ℕ). (parse_all next_event t r).rest) (drop-drop used at octets)

elements_next : (s t : State) (octets : List ℕ) (at used : ℕ) (e : Event) → next_event s (drop at octets) ≡ One e t used
    → (parse_all next_event s (drop at octets)).elements ≡ e ∷ (parse_all next_event t (drop (at + used) octets)).elements
elements_next s t octets at used e h =
    ap (λ (r : Parsed State Event). r.elements) (front s (drop at octets) (One e t used) h)
    ∙ ap (λ (r : List ℕ). e ∷ (parse_all next_event t r).elements) (drop-drop used at octets)

pub seen_next : (s t : State) (octets : List ℕ) (at used : ℕ) (e : Event) (seen seen' : Sight) → next_event s (drop at octets) ≡ One e t used → e.state ≡ t → seen' ≡ with_item s seen e
    → with_items s seen (parse_all next_event s (drop at octets)).elements ≡ with_items t seen' (parse_all next_event t (drop (at + used) octets)).elements
seen_next s t octets at used e seen seen' h state same =
    ap (λ (es : List Event). with_items s seen es) (elements_next s t octets at used e h)
    ∙ ap (λ (x : State). with_items x (with_item s seen e) (parse_all next_event t (drop (at + used) octets)).elements) state
    ∙ ap (λ (x : Sight). with_items t x (parse_all next_event t (drop (at + used) octets)).elements) (sym same)

-- where there is no item
pub state_end : (s : State) (b : List ℕ) → next_event s b ≡ Stop → (parse_all next_event s b).state ≡ s
state_end s b e = ap (λ (r : Parsed State Event). r.state) (front s b Stop e)

pub rest_end : (s : State) (b : List ℕ) → next_event s b ≡ Stop → (parse_all next_event s b).rest ≡ b
rest_end s b e = ap (λ (r : Parsed State Event). r.rest) (front s b Stop e)

pub seen_end : (s : State) (b : List ℕ) (seen : Sight) → next_event s b ≡ Stop → with_items s seen (parse_all next_event s b).elements ≡ seen
seen_end s b seen e = ap (λ (r : Parsed State Event). with_items s seen r.elements) (front s b Stop e)
