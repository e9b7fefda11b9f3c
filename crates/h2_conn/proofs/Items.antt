-- One item: what the splitter gives is what the definitions take.
use Rattle.std.proofs.Common.{◌≡◌, ◌∙◌, ◌+◌, ◌-◌, ◌<◌, ◌≤◌, ◌^◌, ℕ, Bool, true, false, List, Some, None, cond, eqb, ltb, length, drop, refl, sym, ap, subst, true≢false, nat_eq, arith, length-take}
use Rattle.std.proofs.lemmas.Bool.{cond_both, ltb-false}
use Rattle.std.specs.List.{common_prefix_len}
use Rattle.std.specs.Prelude.{slice_range, nat_lt}
use Rattle.h2_spec.specs.declared.connection.Phase.{Phase}
use Rattle.h2_spec.specs.declared.connection.Phase.TheVariants as phase
use Rattle.h2_spec.specs.declared.frames.Head.{Head}
use Rattle.h2_spec.specs.Frames.Frame.{Item, Preface, BadPreface, WholeFrame, Oversize, Next, NoItem, Got, next, preface, frame_item, head_of}
use Rattle.h2_spec.specs.State.{State}
use Rattle.h2_spec.specs.Frames.Parse.{Stop, One}
use Rattle.h2_spec.specs.Trace.{Event, event_on, next_event, next_item, step}
use Rattle.h2_spec.specs.Trace as trace
use Rattle.h2_frame.specs.Items.{found, item_in, rest_after, rest_behind}
use Rattle.h2_frame.specs.Rest.{Rest}
use Rattle.h2_conn.specs.Connection.{awaits_preface, Fits, is_ended}
use Rattle.h2_spec.specs.Does.{Does, IsShort}
use Rattle.h2_conn.specs.Runs.{Takes}
use Rattle.h2_conn.proofs.Phases.{bad-phase, frame-phase, oversize-phase, preface-phase}

-- ---- what is found

pub found-is : (r : Rest) (p : Phase) (limit : ℕ) → Fits r p → is_ended p ≡ false → found limit r ≡ trace.next_in p limit r.octets
found-is r phase.Preface limit h e = rw (h.0, h.1) refl
found-is r phase.Settings limit h e = rw (h.0, h.1) refl
found-is r phase.Running limit h e = rw (h.0, h.1) refl
found-is r (phase.Ended code) limit h e = absurd (true≢false e)

event-is : (r : Rest) (s : State) → Fits r s.core.phase → is_ended s.core.phase ≡ false → next_event s r.octets ≡ event_on s (found s.core.own.frame r)
unfolding next_event next_item
event-is r s h e = ap (event_on s) (sym (found-is r s.core.phase s.core.own.frame h e))

abbrev Opens : Bool → Next → Type 0
Opens expected NoItem = Unit {0}
Opens true (Got Preface used) = Unit {0}
Opens true (Got BadPreface used) = Unit {0}
Opens true (Got (WholeFrame h b) used) = ⊥
Opens true (Got (Oversize h) used) = ⊥
Opens false (Got x used) = Unit {0}

-- a payload is no longer than the limit
abbrev Within : ℕ → Next → Type 0
Within limit NoItem = Unit {0}
Within limit (Got Preface used) = Unit {0}
Within limit (Got BadPreface used) = Unit {0}
Within limit (Got (WholeFrame h b) used) = length b ≤ limit
Within limit (Got (Oversize h) used) = Unit {0}

content_received : (n : Next) (x : Item) → Some x ≡ item_in n → (used : ℕ) × (n ≡ Got x used)
content_received NoItem x h = cc
content_received (Got item used) x h = (used, cc)

pub not-got : (n : Next) → None ≡ item_in n → n ≡ NoItem
not-got NoItem h = refl
not-got (Got item used) h = cc

opens : (b : List ℕ) (limit : ℕ) → Opens true (next true limit b)
unfolding next
opens b limit =
    cond_both (eqb same 24) (Got Preface 24) (cond (ltb same (length b)) (Got BadPreface (same + 1)) NoItem) (Opens true)
    (λ e. tt) (λ e. cond_both (ltb same (length b)) (Got BadPreface (same + 1)) NoItem (Opens true) (λ g. tt) (λ g. tt))
  where
    same : ℕ
    same = common_prefix_len nat_eq b preface

within-frame : (limit : ℕ) (h : Head) (b : List ℕ) → Within limit (frame_item limit h b)
within-frame limit h b =
    cond_both (nat_lt limit h.length) (Got (Oversize h) 9) _ (Within limit) (λ e. tt)
    (λ e. cond_both (nat_lt (length b) (9 + h.length)) NoItem (Got (WholeFrame h (slice_range b 9 (9 + h.length))) (9 + h.length)) (Within limit) (λ f. tt)
    (λ f. omega (arith, length-take (9 + h.length - 9) (drop 9 b), ltb-false limit h.length e)))

within-next : (p : Bool) (limit : ℕ) (b : List ℕ) → Within limit (next p limit b)
unfolding next
within-next true limit b =
    cond_both (eqb same 24) (Got Preface 24) (cond (ltb same (length b)) (Got BadPreface (same + 1)) NoItem) (Within limit)
    (λ e. tt) (λ e. cond_both (ltb same (length b)) (Got BadPreface (same + 1)) NoItem (Within limit) (λ g. tt) (λ g. tt))
  where
    same : ℕ
    same = common_prefix_len nat_eq b preface
within-next false limit b = cond_both (nat_lt (length b) 9) NoItem (frame_item limit (head_of b) b) (Within limit) (λ e. tt) (λ e. within-frame limit (head_of b) b)

within-found : (limit : ℕ) (r : Rest) → Within limit (found limit r)
within-found limit r = cond_both r.is_over NoItem (next r.expects_preface limit r.octets) (Within limit) (λ e. tt) (λ e. within-next r.expects_preface limit r.octets)

short : (limit : ℕ) (x : Item) (used : ℕ) → limit < 2 ^ 24 → Within limit (Got x used) → IsShort x
short limit Preface used h w = tt
short limit BadPreface used h w = tt
short limit (WholeFrame head b) used h w = omega (arith, h, w)
short limit (Oversize head) used h w = tt

-- a payload that the splitter gives fits a frame
pub item-short : (r : Rest) (limit : ℕ) (x : Item) → limit < 2 ^ 24 → Some x ≡ item_in (found limit r) → IsShort x
item-short r limit x h i = let n = content_received (found limit r) x i in short limit x n.0 h (subst (Within limit) n.1 (within-found limit r))

-- ---- what advancing does

pub item-taken : (r : Rest) (s t : State) (x : Item) (out out' : List ℕ) → Fits r s.core.phase → is_ended s.core.phase ≡ false → Some x ≡ item_in (found s.core.own.frame r)
    → Does (step s x) out t out' → Takes s r.octets out t (rest_after s.core.own.frame r).octets out'
item-taken r s t x out out' h e i d =
    let n = content_received (found s.core.own.frame r) x i in
    let st = step s x in
    record {
      event = record { item = x; state = st.state; sent = st.sent };
      used = n.0;
      comes = event-is r s h e ∙ ap (event_on s) n.1 ∙ ap (λ (u : State). One (record { item = x; state = st.state; sent = st.sent }) u n.0) (sym d.state);
      after = sym d.state;
      rest = ap (λ (next : Next). (rest_behind r next).octets) n.1;
      sent = d.sent;
      short = d.short;
    }

fits-past : (p : Phase) (rest : List ℕ) → awaits_preface p ≡ false → Fits (record { octets = rest; expects_preface = false; is_over = false }) p
fits-past phase.Preface rest h = absurd (true≢false h)
fits-past phase.Settings rest h = (refl, refl)
fits-past phase.Running rest h = (refl, refl)
fits-past (phase.Ended code) rest h = tt

pub fits-ended : (p : Phase) (r : Rest) → is_ended p ≡ true → Fits r p
fits-ended phase.Preface r h = absurd (true≢false (sym h))
fits-ended phase.Settings r h = absurd (true≢false (sym h))
fits-ended phase.Running r h = absurd (true≢false (sym h))
fits-ended (phase.Ended code) r h = tt

no-frame : (p : Phase) (r : Rest) (limit used : ℕ) (head : Head) (b : List ℕ) → Fits r p → is_ended p ≡ false → found limit r ≡ Got (WholeFrame head b) used → awaits_preface p ≡ false
no-frame phase.Preface r limit used head b h e g = absurd (subst (Opens true) (sym (found-is r phase.Preface limit h e) ∙ g) (opens r.octets limit))
no-frame phase.Settings r limit used head b h e g = refl
no-frame phase.Running r limit used head b h e g = refl
no-frame (phase.Ended code) r limit used head b h e g = absurd (true≢false e)

-- the splitter and the phase agree after an item
stays-fit : (r : Rest) (s : State) (x : Item) (used : ℕ) → Fits r s.core.phase → is_ended s.core.phase ≡ false → found s.core.own.frame r ≡ Got x used
    → Fits (rest_behind r (Got x used)) (step s x).state.core.phase
stays-fit r s Preface used h e g = fits-past _ (drop used r.octets) (ap awaits_preface (preface-phase s))
stays-fit r s BadPreface used h e g = fits-ended _ (rest_behind r (Got BadPreface used)) (bad-phase s)
stays-fit r s (WholeFrame head b) used h e g = fits-past _ (drop used r.octets) (frame-phase s head b (no-frame s.core.phase r s.core.own.frame used head b h e g))
stays-fit r s (Oversize head) used h e g = fits-ended _ (rest_behind r (Got (Oversize head) used)) (oversize-phase s head)

pub item-fits : (r : Rest) (s t : State) (x : Item) (out out' : List ℕ) → Fits r s.core.phase → is_ended s.core.phase ≡ false → Some x ≡ item_in (found s.core.own.frame r)
    → Does (step s x) out t out' → Fits (rest_after s.core.own.frame r) t.core.phase
item-fits r s t x out out' h e i d =
    let n = content_received (found s.core.own.frame r) x i in
    rw (d.state, n.1) (stays-fit r s x n.0 h e n.1)

pub none-comes : (r : Rest) (s : State) → Fits r s.core.phase → is_ended s.core.phase ≡ false → None ≡ item_in (found s.core.own.frame r) → next_event s r.octets ≡ Stop
none-comes r s h e i = event-is r s h e ∙ ap (event_on s) (not-got (found s.core.own.frame r) i)

stop-at : (p : Phase) (s : State) (b : List ℕ) → s.core.phase ≡ p → is_ended p ≡ true → next_event s b ≡ Stop
unfolding next_event next_item
stop-at phase.Preface s b h e = absurd (true≢false (sym e))
stop-at phase.Settings s b h e = absurd (true≢false (sym e))
stop-at phase.Running s b h e = absurd (true≢false (sym e))
stop-at (phase.Ended code) s b h e = rw h refl

-- after the end of the connection nothing is an item
pub none-after : (s : State) (b : List ℕ) → is_ended s.core.phase ≡ true → next_event s b ≡ Stop
none-after s b e = stop-at s.core.phase s b refl e

pub none-left : (limit : ℕ) (r : Rest) → None ≡ item_in (found limit r) → rest_after limit r ≡ r
none-left limit r i = ap (rest_behind r) (not-got (found limit r) i)

-- ---- the phase after an item

-- nothing is known of an item where the preface is not awaited
opens-later : (n : Next) → Opens false n
opens-later NoItem = tt
opens-later (Got x used) = tt

opens-in : (p : Phase) (limit : ℕ) (b : List ℕ) → Opens (awaits_preface p) (trace.next_in p limit b)
opens-in phase.Preface limit b = opens b limit
opens-in phase.Settings limit b = opens-later (next false limit b)
opens-in phase.Running limit b = opens-later (next false limit b)
opens-in (phase.Ended code) limit b = tt

ended-past : (p : Phase) → is_ended p ≡ true → awaits_preface p ≡ false
ended-past phase.Preface h = absurd (true≢false (sym h))
ended-past phase.Settings h = refl
ended-past phase.Running h = refl
ended-past (phase.Ended code) h = refl

frame-past : (expected : Bool) (h : Head) (b : List ℕ) (used : ℕ) → Opens expected (Got (WholeFrame h b) used) → expected ≡ false
frame-past true h b used o = absurd o
frame-past false h b used o = refl

item-past : (s : State) (x : Item) (used : ℕ) → Opens (awaits_preface s.core.phase) (Got x used) → awaits_preface (step s x).state.core.phase ≡ false
item-past s Preface used o = ap awaits_preface (preface-phase s)
item-past s BadPreface used o = ended-past _ (bad-phase s)
item-past s (WholeFrame h b) used o = frame-phase s h b (frame-past (awaits_preface s.core.phase) h b used o)
item-past s (Oversize h) used o = ended-past _ (oversize-phase s h)

event-past : (s t : State) (n : Next) (e : Event) (used : ℕ) → Opens (awaits_preface s.core.phase) n → event_on s n ≡ One e t used → awaits_preface t.core.phase ≡ false
event-past s t NoItem e used o h = cc
event-past s t (Got x used') e used o h = let same : (step s x).state ≡ t = cc in rw (← same) (item-past s x used' o)

-- after an item the preface is awaited no more
pub comes-past : (s t : State) (b : List ℕ) (e : Event) (used : ℕ) → next_event s b ≡ One e t used → awaits_preface t.core.phase ≡ false
unfolding next_event next_item
comes-past s t b e used h = event-past s t (trace.next_in s.core.phase s.core.own.frame b) e used (opens-in s.core.phase s.core.own.frame b) h
