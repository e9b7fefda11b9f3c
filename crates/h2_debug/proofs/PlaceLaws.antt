-- From one place of a run to the next.
use Rattle.std.proofs.Common.{◌≡◌, ◌∙◌, ◌⊎◌, inl, inr, ℕ, zero, suc, ◌+◌, ◌<◌, ◌≤◌, List, [], ◌∷◌, length, drop, refl, sym, ap, subst, arith, length-drop, lt-ltb, le-ltb, Bool, true, false, cond, Some, None, ◌==◌}
use Rattle.std.proofs.lemmas.Bool.{cases_lt, ne_eqb}
use Rattle.std.proofs.lemmas.List.{append-nil, drop-drop}
use Rattle.std.specs.Prelude.{nat_lt, if◌then◌else◌}
use Rattle.h2_spec.specs.Texts.Debug.{state_at, sent_at}
use Rattle.h2_spec.specs.Frames.Frame.{Frame, Item, frames_octets, head_at, Next, NoItem, Got}
use Rattle.h2_spec.specs.Opening.{opening_octets}
use Rattle.h2_spec.specs.Frames.Parse.{Front, Stop, One, Parsed, parse_all, parse_first}
use Rattle.h2_spec.specs.State.{State}
use Rattle.h2_spec.specs.Trace.{Event, event_on, left_by, next_event, next_in, next_item, step, trace}
use Rattle.h2_spec.proofs.ParseLaws.{Uses, parse_all-step}
use Rattle.h2_spec.proofs.TraceLaws.{event-uses}
use Rattle.h2_conn.specs.Connection.{Connection, awaits_preface, going}
use Rattle.h2_conn.specs.First.{TakesFirst}
use Rattle.h2_conn.specs.Reports.{report_of, reported}
use Rattle.h2_conn.specs.declared.report.TakenItem.{TakenItem}
use Rattle.h2_debug.specs.Reasons.{no_reasons, reasons_by, reasons_in, reasons_of}
use Rattle.h2_conn.specs.Follows.{Follows}
use Rattle.h2_conn.proofs.Items.{comes-past}
use Rattle.h2_conn.proofs.FollowsLaws.{follows-refl, follows-then}
use Rattle.h2_debug.proofs.BreakLaws.{comes-head}
use Rattle.h2_debug.specs.Cases.{head_after, head_in, item_after, item_in}
use Rattle.h2_debug.specs.Items.{is_item}
use Rattle.h2_debug.specs.Places.{Source, Placed, EndAlike, IsAt, TakesItem, HasNoItem, Advances, start, end, events, at, frames_at, reasons_at}

-- ---- the items of octets

events-stop : (s : State) (b : List ℕ) → next_event s b ≡ Stop → (trace s b).events ≡ []
unfolding trace
events-stop s b e =
    ap (λ (r : Parsed State Event). r.elements) (parse_all-step next_event event-uses s b ∙ ap (λ (x : Front State Event). parse_first s b x (λ t rest. parse_all next_event t rest)) e)

events-one : (s t : State) (b : List ℕ) (e : Event) (used : ℕ) → next_event s b ≡ One e t used → (trace s b).events ≡ e ∷ (trace t (drop used b)).events
unfolding trace
events-one s t b e used h =
    ap (λ (r : Parsed State Event). r.elements) (parse_all-step next_event event-uses s b ∙ ap (λ (x : Front State Event). parse_first s b x (λ u rest. parse_all next_event u rest)) h)

ends-one : (s t : State) (b : List ℕ) (e : Event) (used : ℕ) → next_event s b ≡ One e t used → EndAlike (trace s b) (trace t (drop used b))
unfolding trace
ends-one s t b e used h =
    let one = parse_all-step next_event event-uses s b ∙ ap (λ (x : Front State Event). parse_first s b x (λ u rest. parse_all next_event u rest)) h in (
      ap (λ (r : Parsed State Event). r.state) one,
      ap (λ (r : Parsed State Event). left_by r.state.core.phase r.rest) one,
    )

same-state : State → Front State Event → Type 0
same-state s Stop = Unit {0}
same-state s (One e t used) = e.state ≡ t

event-same : (s : State) (n : Next) → same-state s (event_on s n)
unfolding same-state
event-same s NoItem = tt
event-same s (Got x used) = refl

event-state : (s t : State) (b : List ℕ) (e : Event) (used : ℕ) → next_event s b ≡ One e t used → e.state ≡ t
unfolding next_event same-state
event-state s t b e used h = subst (same-state s) h (event-same s (next_item s b))

-- ---- a place in a list of items

next-within : (n : ℕ) (es more : List Event) (e : Event) → drop n es ≡ e ∷ more → n + 1 ≤ length es
next-within n es more e h = omega (arith, length-drop n es, ap length h)

next-later : (n : ℕ) (es more : List Event) (e : Event) → drop n es ≡ e ∷ more → drop (n + 1) es ≡ more
next-later n es more e h = sym (drop-drop 1 n es) ∙ ap (drop 1) h

next-state : (s : State) (n : ℕ) (es more : List Event) (e : Event) → drop n es ≡ e ∷ more → state_at s es (suc n) ≡ e.state
next-state s zero [] more e h = cc
next-state s zero (x ∷ xs) more e h = let same : x ≡ e = cc in rw same refl
next-state s (suc n) [] more e h = cc
next-state s (suc n) (x ∷ xs) more e h = next-state x.state n xs more e h

next-sent : (o : List Frame) (n : ℕ) (es more : List Event) (e : Event) → drop n es ≡ e ∷ more → sent_at o es (suc n) ≡ e.sent
next-sent o zero [] more e h = cc
next-sent o zero (x ∷ xs) more e h = let same : x ≡ e = cc in rw same refl
next-sent o (suc n) [] more e h = cc
next-sent o (suc n) (x ∷ xs) more e h = next-sent x.sent n xs more e h

none-last : (n : ℕ) (es : List Event) → n ≤ length es → drop n es ≡ [] → n ≡ length es
none-last n es w h = omega (arith, length-drop n es, ap length h)

next-reasons : (s : State) (n : ℕ) (es more : List Event) (e : Event) → drop n es ≡ e ∷ more → reasons_in s es (suc n) ≡ reasons_of (state_at s es n) e.item
next-reasons s zero [] more e h = cc
next-reasons s zero (x ∷ xs) more e h = let same : x ≡ e = cc in ap (λ (y : Event). reasons_of s y.item) same
next-reasons s (suc n) [] more e h = cc
next-reasons s (suc n) (x ∷ xs) more e h = next-reasons x.state n xs more e h

-- what is reported of the item of an event
event-reasons : (s t : State) (n : Next) (e : Event) (used : ℕ) (taken : TakenItem) → event_on s n ≡ One e t used → Some taken ≡ reported s n → reasons_by taken ≡ reasons_of s e.item
event-reasons s t NoItem e used taken h w = cc
event-reasons s t (Got x u) e used taken h w =
    let is : taken ≡ report_of s x u = cc in
    let same : record { item = x; state = (step s x).state; sent = (step s x).sent } ≡ e = cc in
    ap reasons_by is ∙ ap (λ (v : Event). reasons_of s v.item) same

taken-reasons : (s t : State) (b out out' : List ℕ) (used : ℕ) (taken : TakenItem) (y : TakesFirst s b out t out' used) → Some taken ≡ reported s (next_item s b) → reasons_by taken ≡ reasons_of s y.event.item
unfolding next_event
taken-reasons s t b out out' used taken y w = event-reasons s t (next_item s b) y.event used taken y.comes w

-- ---- the start

pub place-start : (r : Source) (c : Connection) (sent : List ℕ) → c ≡ going (start r) [] → sent ≡ opening_octets r.config → IsAt r (record { connection = c; position = 0; used = 0; ran = 0; reasons = no_reasons; sent = sent })
unfolding opening_octets
place-start r c sent new said = record {
  within = omega arith;
  counted = omega arith;
  few = omega arith;
  used = omega arith;
  goes = new;
  later = refl;
  ends = (refl, refl);
  begun = λ h. absurd (omega (arith, h));
  reasons = refl;
  sent = said ∙ sym (append-nil _);
  follows = λ q le. let none : 0 ≡ q = omega (arith, le) in subst (λ (n : ℕ). Follows (at r n) (at r 0)) none (follows-refl (at r 0));
}

-- ---- the next item

-- the preface is awaited before position 1 alone
awaited : (r : Source) (n : ℕ) → (0 < n → awaits_preface (at r n).core.phase ≡ false) → awaits_preface (at r n).core.phase ≡ (n + 1 == 1)
awaited r zero h = refl
awaited r (suc n) h = h (omega arith) ∙ sym (ne_eqb (suc n + 1) 1 (λ e. omega (arith, e)))

-- each earlier state leaves what it left of the state before the next item
follows-next : (r : Source) (n : ℕ) → ((q : ℕ) → q ≤ n → Follows (at r q) (at r n)) → Follows (at r n) (at r (n + 1)) → (q : ℕ) → q ≤ n + 1 → Follows (at r q) (at r (n + 1))
follows-next r n earlier one q le = by (cases_lt n q)
  where
    by : (n < q) ⊎ (q ≤ n) → Follows (at r q) (at r (n + 1))
    by (inl last) = let same : n + 1 ≡ q = omega (arith, le, last) in subst (λ (m : ℕ). Follows (at r m) (at r (n + 1))) same (follows-refl (at r (n + 1)))
    by (inr before) = follows-then (at r q) (at r n) (at r (n + 1)) (earlier q before) one

pub place-next : (r : Source) (p : Placed) (c' : Connection) (out : List ℕ) (taken : TakenItem) → IsAt r p → c' ≡ going c'.state [] → TakesFirst p.connection.state (drop p.used r.octets) [] c'.state out taken.used
    → Follows p.connection.state c'.state → Some taken ≡ reported p.connection.state (next_item p.connection.state (drop p.used r.octets))
    → TakesItem r p (record { connection = c'; position = p.position + 1; used = p.used + taken.used; ran = p.ran + 1; reasons = reasons_by taken; sent = out }) × (p.used + taken.used ≤ length r.octets)
place-next r p c' out taken x g y f w =
    let count : ℕ = taken.used in
    let s : State = at r p.position in
    let t : State = c'.state in
    let b : List ℕ = drop p.used r.octets in
    let state : p.connection.state ≡ s = ap (λ (d : Connection). d.state) x.goes in
    let comes : next_event s b ≡ One y.event t count = rw (← state) y.comes in
    let uses : Uses b (One y.event t count) = subst (λ (n : Front State Event). Uses b n) comes (event-uses s b) in
    let within : p.used + count ≤ length r.octets = omega (arith, x.used, uses.1, length-drop p.used r.octets) in
    let first : drop p.position (events r) ≡ y.event ∷ (trace t (drop (p.used + count) r.octets)).events =
    x.later ∙ events-one s t b y.event count comes ∙ ap (λ (q : List ℕ). y.event ∷ (trace t q).events) (drop-drop count p.used r.octets)
    ∙ ap (λ (n : ℕ). y.event ∷ (trace t (drop n r.octets)).events) (omega arith) in
    let one : EndAlike (trace s b) (trace t (drop (p.used + count) r.octets)) =
    subst (λ (q : List ℕ). EndAlike (trace s b) (trace t q)) (drop-drop count p.used r.octets) (ends-one s t b y.event count comes) in
    let next : p.position + 1 ≡ suc p.position = omega arith in
    let state' : at r (p.position + 1) ≡ t =
    ap (at r) next ∙ next-state (start r) p.position (events r) _ y.event first ∙ event-state s t b y.event count comes in (
      record {
        place = record {
          within = next-within p.position (events r) _ y.event first;
          counted = omega (arith, x.counted, uses.0);
          few = omega (arith, x.few);
          used = within;
          goes = g ∙ ap (λ (u : State). going u []) (sym state');
          later = next-later p.position (events r) _ y.event first ∙ ap (λ (u : State). (trace u (drop (p.used + count) r.octets)).events) (sym state');
          ends = subst (λ (u : State). EndAlike (trace u (drop (p.used + count) r.octets)) (trace (start r) r.octets)) (sym state') (sym one.0 ∙ x.ends.0, sym one.1 ∙ x.ends.1);
          begun = λ _. rw state' (comes-past s t b y.event count comes);
          reasons = taken-reasons p.connection.state t b [] out count taken y w ∙ ap (λ (u : State). reasons_of u y.event.item) state ∙ sym (ap (reasons_at r) next ∙ next-reasons (start r) p.position (events r) _ y.event first);
          sent = y.sent ∙ ap frames_octets (sym (ap (frames_at r) next ∙ next-sent _ p.position (events r) _ y.event first));
          follows = follows-next r p.position x.follows (subst (Follows s) (sym state') (subst (λ (u : State). Follows u t) state f));
        };
        next = refl;
        ran = refl;
        event = y.event;
        first = first ∙ ap (λ (es : List Event). y.event ∷ es) (sym (next-later p.position (events r) _ y.event first));
        item = record {
          head_is = comes-head s t b y.event count comes ∙ ap (λ (t : Bool). cond t None (head_at b)) (awaited r p.position x.begun);
          sent_is = y.sent;
          short = y.short;
        };
      },
      within,
    )

pub place-last : (r : Source) (p : Placed) (c' : Connection) → IsAt r p → c' ≡ going c'.state [] → c'.state ≡ p.connection.state → next_event p.connection.state (drop p.used r.octets) ≡ Stop
    → HasNoItem r p (record p { connection = c' })
place-last r p c' x g e none =
    let s : State = at r p.position in
    let state : p.connection.state ≡ s = ap (λ (d : Connection). d.state) x.goes in
    let empty : drop p.position (events r) ≡ [] = x.later ∙ events-stop s (drop p.used r.octets) (rw (← state) none) in
    let same : c' ≡ p.connection = g ∙ ap (λ (u : State). going u []) (e ∙ state) ∙ sym x.goes in
    record { same = ap (λ (d : Connection). record p { connection = d }) same; last = none-last p.position (events r) x.within empty }

-- ---- whether one follows

-- where an item was to come, one was taken
pub place-took : (r : Source) (before after : Placed) (b : Bool) → Advances r before after b → before.position < end r → TakesItem r before after
place-took r before after true x more = x
place-took r before after false x more = absurd (omega (arith, x.last, more))

item-follows : (s : State) (n : Next) (b : List ℕ) (k : ℕ) (es : List Event) → event_on s n ≡ next_event s b → drop k es ≡ (trace s b).events → k ≤ length es → is_item n ≡ nat_lt k (length es)
item-follows s NoItem b k es is later within =
    let last : k ≡ length es = none-last k es within (later ∙ events-stop s b (sym is)) in
    sym (le-ltb k (length es) (omega (arith, last)))
item-follows s (Got x used) b k es is later within =
    let one = events-one s (step s x).state b _ used (sym is) in
    let more : k + 1 ≤ length es = next-within k es _ _ (later ∙ one) in
    sym (lt-ltb k (length es) (omega (arith, more)))

-- an item follows exactly where this is not the end
pub place-more : (r : Source) (p : Placed) → IsAt r p → is_item (next_in p.connection.state.core.phase p.connection.state.core.own.frame (drop p.used r.octets)) ≡ nat_lt p.position (end r)
unfolding next_event next_item
place-more r p x =
    let s : State = at r p.position in
    let state : p.connection.state ≡ s = ap (λ (d : Connection). d.state) x.goes in
    rw state (item-follows s (next_item s (drop p.used r.octets)) (drop p.used r.octets) p.position (events r) refl x.later x.within)

-- a connection at a place can take an item
pub place-ready : (r : Source) (p : Placed) → IsAt r p → p.connection ≡ going p.connection.state []
place-ready r p x = x.goes ∙ ap (λ (s : State). going s []) (sym (ap (λ (c : Connection). c.state) x.goes))

-- ---- the item that follows

item-in : (n : ℕ) (es more : List Event) (e : Event) → drop n es ≡ e ∷ more → item_in es n ≡ Some e.item
item-in zero [] more e h = cc
item-in zero (x ∷ xs) more e h = let same : x ≡ e = cc in rw same refl
item-in (suc n) [] more e h = cc
item-in (suc n) (x ∷ xs) more e h = item-in n xs more e h

-- the item that the octets after a place begin with
pub record HasItem (r : Source) (p : Placed) : Type 0 where
  pub item : Item
  pub used : ℕ
  pub next : next_item (at r p.position) (drop p.used r.octets) ≡ Got item used
  pub after : item_after r p.position ≡ Some item
  pub reasons : reasons_at r (p.position + 1) ≡ reasons_of (at r p.position) item

item-next : (r : Source) (p : Placed) (n : Next) → IsAt r p → p.position < end r → next_item (at r p.position) (drop p.used r.octets) ≡ n → HasItem r p
unfolding next_event
item-next r p NoItem x more h =
    let empty : drop p.position (events r) ≡ [] = x.later ∙ events-stop (at r p.position) (drop p.used r.octets) (ap (event_on (at r p.position)) h) in
    let last = none-last p.position (events r) x.within empty in
    absurd (omega (arith, last, more))
item-next r p (Got item used) x more h =
    let s : State = at r p.position in
    let one = x.later ∙ events-one s (step s item).state (drop p.used r.octets) _ used (ap (event_on s) h) in
    let next : p.position + 1 ≡ suc p.position = omega arith in
    record {
      item = item;
      used = used;
      next = h;
      after = item-in p.position (events r) _ _ one;
      reasons = ap (reasons_at r) next ∙ next-reasons (start r) p.position (events r) _ _ one;
    }

pub place-item : (r : Source) (p : Placed) → IsAt r p → p.position < end r → HasItem r p
place-item r p x more = item-next r p (next_item (at r p.position) (drop p.used r.octets)) x more refl

-- an item was taken, or there was none
pub advances-one : (r : Source) (before after : Placed) (b : Bool) → Advances r before after b → b ≡ true → IsAt r after × (after.position ≡ before.position + 1)
advances-one r before after true x is = (x.place, x.next)
advances-one r before after false x is = cc

pub advances-none : (r : Source) (before after : Placed) (b : Bool) → Advances r before after b → b ≡ false → (after ≡ before) × (before.position ≡ end r)
advances-none r before after true x is = cc
advances-none r before after false x is = (x.same, x.last)

-- where one follows, it was taken
pub advances-more : (r : Source) (before after : Placed) (b : Bool) → Advances r before after b → before.position < end r → IsAt r after × (after.position ≡ before.position + 1)
advances-more r before after b x more = let y = place-took r before after b x more in (y.place, y.next)

-- the head of the item that was taken
pub head-seen : (r : Source) (before after : Placed) (b : Bool) → Advances r before after b → before.position < end r
    → head_after r before.position ≡ (if after.position == 1 then None else head_at (drop before.used r.octets))
head-seen r before after b x more =
    let y = place-took r before after b x more in
    ap head_in (item-in before.position (events r) _ y.event y.first) ∙ y.item.head_is

-- ---- items are counted

-- a place that counts no more items than came before it
pub place-counted : (r : Source) (p : Placed) (count : ℕ) → count ≤ p.position → IsAt r p → IsAt r (record p { ran = count })
place-counted r p count few x = record {
  within = x.within;
  counted = x.counted;
  few = few;
  used = x.used;
  goes = x.goes;
  later = x.later;
  ends = x.ends;
  begun = x.begun;
  reasons = x.reasons;
  sent = x.sent;
  follows = x.follows;
}

-- items are counted anew
pub place-anew : (r : Source) (p : Placed) → IsAt r p → IsAt r (record p { ran = 0 })
place-anew r p x = place-counted r p 0 (omega arith) x
