-- Taking the first item of octets in hand.
use Rattle.std.proofs.Common.{◌≡◌, ◌∙◌, ◌<◌, ◌^◌, ℕ, Bool, true, false, List, Some, None, Option, Result, Ok, Err, IfOk, OnOk, refl, sym, ap, subst, true≢false}
use Rattle.h2_frame.specs.Items.{item_in}
use Rattle.h2_spec.specs.declared.connection.Phase.{Phase}
use Rattle.h2_spec.specs.declared.connection.Phase.TheVariants as phase
use Rattle.h2_spec.specs.Frames.Frame.{Item, Next, NoItem, Got, next}
use Rattle.h2_spec.specs.Frames.Parse.{Stop, One}
use Rattle.h2_spec.specs.State.{State}
use Rattle.h2_spec.specs.Trace.{Event, event_on, next_event, next_item, step}
use Rattle.h2_spec.specs.Trace as trace
use Rattle.h2_conn.specs.Connection.{awaits_preface, is_ended}
use Rattle.h2_spec.specs.Does.{Does, IsShort}
use Rattle.h2_conn.specs.First.{TakesFirst, TakesIfAny}
use Rattle.h2_conn.specs.Reports.{used_by}
use Rattle.h2_conn.specs.declared.report.TakenItem.{TakenItem}
use Rattle.h2_conn.proofs.Items.{item-short}
use Rattle.h2_conn.specs.Follows.{Follows}
use Rattle.h2_conn.proofs.FollowsLaws.{IsOrdered, follows-refl, step-follows}

next-is : (p : Phase) (limit : ℕ) (b : List ℕ) → is_ended p ≡ false → trace.next_in p limit b ≡ next (awaits_preface p) limit b
next-is phase.Preface limit b h = refl
next-is phase.Settings limit b h = refl
next-is phase.Running limit b h = refl
next-is (phase.Ended code) limit b h = absurd (true≢false h)

event-is : (s : State) (b : List ℕ) → is_ended s.core.phase ≡ false → next_event s b ≡ event_on s (next (awaits_preface s.core.phase) s.core.own.frame b)
unfolding next_event next_item
event-is s b h = ap (event_on s) (next-is s.core.phase s.core.own.frame b h)

-- an item that the octets begin with fits a frame
pub first-short : (expected : Bool) (limit used : ℕ) (b : List ℕ) (x : Item) → limit < 2 ^ 24 → Got x used ≡ next expected limit b → IsShort x
first-short expected limit used b x few h = item-short (record { octets = b; expects_preface = expected; is_over = false }) limit x few (ap item_in h)

pub first-taken : (s t : State) (b out out' : List ℕ) (x : Item) (used : ℕ) → is_ended s.core.phase ≡ false → Got x used ≡ next (awaits_preface s.core.phase) s.core.own.frame b
    → Does (step s x) out t out' → TakesFirst s b out t out' used
first-taken s t b out out' x used goes h d =
    let st = step s x in
    record {
      event = record { item = x; state = st.state; sent = st.sent };
      comes = event-is s b goes ∙ ap (event_on s) (sym h) ∙ ap (λ (u : State). One (record { item = x; state = st.state; sent = st.sent }) u used) (sym d.state);
      sent = d.sent;
      short = d.short;
    }

pub first-none : (s : State) (b : List ℕ) → is_ended s.core.phase ≡ false → NoItem ≡ next (awaits_preface s.core.phase) s.core.own.frame b → next_event s b ≡ Stop
first-none s b goes h = event-is s b goes ∙ ap (event_on s) (sym h)

event-follows : (s t : State) (n : Next) (e : Event) (used : ℕ) → IsOrdered s → event_on s n ≡ One e t used → Follows s t
event-follows s t NoItem e used o h = cc
event-follows s t (Got x u) e used o h = let same : (step s x).state ≡ t = cc in subst (λ (v : State). Follows s v) same (step-follows s x o)

comes-follows : (s t : State) (b : List ℕ) (e : Event) (used : ℕ) → IsOrdered s → next_event s b ≡ One e t used → Follows s t
unfolding next_event
comes-follows s t b e used o h = event-follows s t (next_item s b) e used o h

any-follows : (s t : State) (b out out' : List ℕ) (used : Option ℕ) → IsOrdered s → TakesIfAny s b out t out' used → Follows s t
any-follows s t b out out' None o x = subst (λ (v : State). Follows s v) (sym x.same) (follows-refl s)
any-follows s t b out out' (Some used) o x = comes-follows s t b x.event used o x.comes

pub taken-follows : {E : Type 0} (r : Result (Option TakenItem) E) (s t : State) (b out out' : List ℕ) → IsOrdered s → IfOk r (λ taken. TakesIfAny s b out t out' (used_by taken)) → OnOk r (Follows s t)
taken-follows (Ok taken) s t b out out' o x = any-follows s t b out out' (used_by taken) o x
taken-follows (Err e) s t b out out' o x = tt

-- the item that a connection takes next
pub item-is : (s : State) (b : List ℕ) → is_ended s.core.phase ≡ false → next_item s b ≡ next (awaits_preface s.core.phase) s.core.own.frame b
unfolding next_item
item-is s b h = next-is s.core.phase s.core.own.frame b h

over-is : (p : Phase) (limit : ℕ) (b : List ℕ) → is_ended p ≡ true → trace.next_in p limit b ≡ NoItem
over-is phase.Preface limit b h = absurd (true≢false (sym h))
over-is phase.Settings limit b h = absurd (true≢false (sym h))
over-is phase.Running limit b h = absurd (true≢false (sym h))
over-is (phase.Ended code) limit b h = refl

-- none after the end
pub item-over : (s : State) (b : List ℕ) → is_ended s.core.phase ≡ true → next_item s b ≡ NoItem
unfolding next_item
item-over s b h = over-is s.core.phase s.core.own.frame b h
