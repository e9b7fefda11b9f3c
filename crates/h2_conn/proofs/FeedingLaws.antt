-- A piece of octets: what is held, what it lacks, and what comes after the item that it becomes.
use Rattle.std.proofs.Common.{◌≡◌, ◌∙◌, ℕ, suc, ◌+◌, ◌-◌, ◌<◌, ◌≤◌, Bool, true, false, List, [], ◌∷◌, ◌++◌, Option, None, Some, Result, Ok, Err, IfOk, OnErr, length, take, drop, refl, sym, ap, subst, arith, length-take, append_assoc, true≢false}
use Rattle.std.proofs.Math.Seq.{drop-append-add, take-add}
use Rattle.std.proofs.lemmas.List.{append-nil, take-append-drop}
use Rattle.h2_spec.specs.declared.connection.Phase.{Phase}
use Rattle.h2_spec.specs.declared.connection.Phase.TheVariants as phase
use Rattle.h2_spec.specs.Texts.Debug.{state_at}
use Rattle.h2_spec.specs.Frames.Frame.{Next, NoItem, Got, frames_octets}
use Rattle.h2_spec.specs.Frames.Parse.{Front, Stop, One}
use Rattle.h2_spec.specs.State.{State}
use Rattle.h2_spec.specs.Trace.{Event, Run, event_on, left_by, next_event, next_in, next_item, sent_octets, trace}
use Rattle.h2_frame.specs.Items.{found, item_in, missing, missing_in, with_more}
use Rattle.h2_frame.specs.Rest.{Rest}
use Rattle.h2_frame.proofs.MissingLaws.{missing-some}
use Rattle.h2_conn.specs.Connection.{Connection, Fits, IsAtRest, IsReady, awaits_preface, connection, going, halted, is_ended}
use Rattle.h2_conn.specs.First.{TakesFirst, TakesIfAny}
use Rattle.h2_conn.specs.Reports.{used_by}
use Rattle.h2_conn.specs.declared.report.TakenItem.{TakenItem}
use Rattle.h2_conn.specs.declared.feed.one.One as code
use Rattle.h2_conn.specs.Runs.{Feeds, FeedsAs, FeedsOne, Halts, Takes, TakesOne, Waits, fed}
use Rattle.h2_spec.proofs.ParseLaws.{Uses}
use Rattle.h2_spec.proofs.TraceLaws.{event-uses}
use Rattle.h2_conn.proofs.Items.{comes-past, fits-ended, found-is, none-after, not-got}
use Rattle.h2_conn.proofs.Plays.{empty-stop, left-none}
use Rattle.h2_conn.proofs.Runs.{left-going, left-same, sent-cons, sent-none, stop-none, trace-stop, whole-one}
use Rattle.h2_conn.proofs.Shortest.{octet-rest, octets-taken, used-more}

-- ---- the splitter and the phase

pub fits-more : (p : Phase) (r : Rest) (more : List ℕ) → Fits r p → Fits (with_more r more) p
fits-more phase.Preface r more h = h
fits-more phase.Settings r more h = h
fits-more phase.Running r more h = h
fits-more (phase.Ended code) r more h = tt

pub is_over-none : (p : Phase) (r : Rest) → Fits r p → is_ended p ≡ false → r.is_over ≡ false
is_over-none phase.Preface r h e = h.0
is_over-none phase.Settings r h e = h.0
is_over-none phase.Running r h e = h.0
is_over-none (phase.Ended code) r h e = absurd (true≢false e)

-- a splitter that awaits the preface where the phase does
pub fits-awaited : (p : Phase) (r : Rest) → r.is_over ≡ false → Fits (record r { expects_preface = awaits_preface p }) p
fits-awaited phase.Preface r h = (h, refl)
fits-awaited phase.Settings r h = (h, refl)
fits-awaited phase.Running r h = (h, refl)
fits-awaited (phase.Ended code) r h = tt

-- a splitter that holds nothing
pub fits-empty : (p : Phase) (expects : Bool) → awaits_preface p ≡ expects → Fits (record { octets = []; expects_preface = expects; is_over = false }) p
fits-empty p expects h = subst (λ (a : Bool). Fits (record { octets = []; expects_preface = a; is_over = false }) p) h (fits-awaited p (record { octets = []; expects_preface = expects; is_over = false }) refl)

-- no item is left in no octets
pub rests-empty : (s : State) (octets : List ℕ) → octets ≡ [] → next_item s octets ≡ NoItem
rests-empty s octets h = rw h (stop-none s [] (empty-stop s))

pub fits-past : (s t : State) (r : Rest) (b out out' : List ℕ) (used : ℕ) → Fits r s.core.phase → is_ended s.core.phase ≡ false → TakesFirst s b out t out' used → Fits (record r { expects_preface = false }) t.core.phase
fits-past s t r b out out' used h e x =
    subst (λ (a : Bool). Fits (record r { expects_preface = a }) t.core.phase) (comes-past s t b x.event used x.comes) (fits-awaited t.core.phase r (is_over-none s.core.phase r h e))

-- ---- what is missing

-- with fewer octets than are missing there is no item
pub missing-none : (s : State) (r : Rest) (more : List ℕ) → Fits r s.core.phase → is_ended s.core.phase ≡ false → item_in (found s.core.own.frame (with_more r more)) ≡ None → next_item s (r.octets ++ more) ≡ NoItem
unfolding next_item
missing-none s r more h e none = sym (found-is (with_more r more) s.core.phase s.core.own.frame (fits-more s.core.phase r more h) e) ∙ not-got (found s.core.own.frame (with_more r more)) (sym none)

missing-in : (p : Phase) (limit : ℕ) (r : Rest) → Fits r p → is_ended p ≡ false → next_in p limit r.octets ≡ NoItem → 0 < missing_in limit r
missing-in phase.Preface limit r h e none = rw (h.0, h.1) (missing-some true limit r.octets none)
missing-in phase.Settings limit r h e none = rw (h.0, h.1) (missing-some false limit r.octets none)
missing-in phase.Running limit r h e none = rw (h.0, h.1) (missing-some false limit r.octets none)
missing-in (phase.Ended code) limit r h e none = absurd (true≢false e)

-- octets are missing where there is no item
pub some-missing : (s : State) (r : Rest) → Fits r s.core.phase → is_ended s.core.phase ≡ false → next_item s r.octets ≡ NoItem → 0 < missing_in s.core.own.frame r
unfolding next_item
some-missing s r h e none = missing-in s.core.phase s.core.own.frame r h e none

-- ---- octets in hand

event-after : (s t : State) (n : Next) (e : Event) (used : ℕ) → event_on s n ≡ One e t used → e.state ≡ t
event-after s t NoItem e used h = cc
event-after s t (Got x u) e used h = cc

pub comes-after : (s t : State) (b : List ℕ) (e : Event) (used : ℕ) → next_event s b ≡ One e t used → e.state ≡ t
unfolding next_event
comes-after s t b e used h = event-after s t (next_item s b) e used h

pub first-takes : (s t : State) (b out out' : List ℕ) (used : ℕ) → TakesFirst s b out t out' used → Takes s b out t (drop used b) out'
first-takes s t b out out' used x = record { event = x.event; used = used; comes = x.comes; after = comes-after s t b x.event used x.comes; rest = refl; sent = x.sent; short = x.short }

pub first-uses : (s t : State) (b out out' : List ℕ) (used : ℕ) → TakesFirst s b out t out' used → (0 < used) × (used ≤ length b)
first-uses s t b out out' used x = subst (λ (n : Front State Event). Uses b n) x.comes (event-uses s b)

comes-goes : (s t : State) (b : List ℕ) (e : Event) (used : ℕ) → next_event s b ≡ One e t used → is_ended s.core.phase ≡ false
comes-goes s t b e used h = at (is_ended s.core.phase) refl
  where
    stop-one : Stop ≡ One e t used → ⊥
    stop-one g = cc

    at : (x : Bool) → is_ended s.core.phase ≡ x → is_ended s.core.phase ≡ false
    at false g = g
    at true g = absurd (stop-one (sym (none-after s b g) ∙ h))

-- ---- a connection that holds no octets

-- after the end nothing is taken
ended-same : (o : Option TakenItem) (s t : State) (b out out' : List ℕ) → TakesIfAny s b out t out' (used_by o) → is_ended s.core.phase ≡ true → t ≡ s
ended-same None s t b out out' x over = x.same
ended-same (Some taken) s t b out out' x over = absurd (true≢false (sym over ∙ comes-goes s t b x.event taken.used x.comes))

pub ended-stays : {E : Type 0} (r : Result (Option TakenItem) E) (s t : State) (b out out' : List ℕ) → IfOk r (λ taken. TakesIfAny s b out t out' (used_by taken)) → OnErr r ((t ≡ s) × (out' ≡ out))
    → is_ended s.core.phase ≡ true → t ≡ s
ended-stays (Ok taken) s t b out out' x err over = ended-same taken s t b out out' x over
ended-stays (Err e) s t b out out' x err over = err.0

-- a splitter that holds nothing still does, and awaits the preface where the phase does
pub still-ready : (s t : State) (r : Rest) → IsReady s r → (is_ended s.core.phase ≡ true → t ≡ s) → IsReady t (record r { expects_preface = awaits_preface t.core.phase })
still-ready s t r h stays = at (is_ended s.core.phase) refl
  where
    at : (ended : Bool) → is_ended s.core.phase ≡ ended → IsReady t (record r { expects_preface = awaits_preface t.core.phase })
    at true e =
        let over : is_ended t.core.phase ≡ true = ap (λ (u : State). is_ended u.core.phase) (stays e) ∙ e in (
          (fits-ended t.core.phase (record r { expects_preface = awaits_preface t.core.phase }) over, stop-none t r.octets (none-after t r.octets over)),
          left-same t.core.phase r.octets [] over ∙ left-none t.core.phase,
        )
    at false e =
        let none : r.octets ≡ [] = sym (left-going s.core.phase r.octets e) ∙ h.1 in (
          (fits-awaited t.core.phase r (is_over-none s.core.phase r h.0.0 e), octet-rest t r.octets none),
          ap (left_by t.core.phase) none ∙ left-none t.core.phase,
        )

-- what is inside such a connection
pub ready-inside : (failed : Bool) (s : State) (r : Rest) (d : Connection) → IsAtRest failed s r → connection failed s r.octets ≡ d → d ≡ going d.state [] → IsReady s r
ready-inside false s r d rests is ready = (rests, ap (λ (c : Connection). c.rest) (is ∙ ready))
ready-inside true s r d rests is ready = absurd (true≢false (ap (λ (c : Connection). c.failed) (is ∙ ready)))

-- what is true of the states inside is true of those that are shown
pub shown-as : (failed : Bool) (s t : State) (octets octets' : List ℕ) (d : Connection) (P : State → State → Type 0) → connection failed s octets ≡ d → d ≡ going d.state [] → P s t → P d.state (connection failed t octets').state
shown-as false s t octets octets' d P is ready x = subst (λ (c : Connection). P c.state t) is x
shown-as true s t octets octets' d P is ready x = absurd (true≢false (ap (λ (c : Connection). c.failed) (is ∙ ready)))

pub ready-shown : (failed : Bool) (s t : State) (octets octets' : List ℕ) (d : Connection) → connection failed s octets ≡ d → d ≡ going d.state [] → left_by t.core.phase octets' ≡ []
    → connection failed t octets' ≡ going (connection failed t octets').state []
ready-shown false s t octets octets' d is ready none = ap (going t) none
ready-shown true s t octets octets' d is ready none = absurd (true≢false (ap (λ (c : Connection). c.failed) (is ∙ ready)))

pub rests-as : (failed : Bool) (s : State) (r : Rest) → IsAtRest false s r → IsAtRest failed s r
rests-as false s r h = h
rests-as true s r h = tt

-- ---- octets that are offered to what is held

offered-none : (s : State) (r : Rest) (octets q : List ℕ) (used count missing : ℕ) → Fits r s.core.phase → is_ended s.core.phase ≡ false → r.octets ≡ octets ++ take used q → 0 < count → count ≤ missing
    → ((more : List ℕ) → length more < missing → item_in (found s.core.own.frame (with_more r more)) ≡ None) → next_item s (octets ++ take (used + count - 1) q) ≡ NoItem
offered-none s r octets q used count missing fits goes held some most fewer =
    let more : List ℕ = take (count - 1) (drop used q) in
    let short : length more < missing = omega (arith, length-take (count - 1) (drop used q), some, most) in
    let sum : used + (count - 1) ≡ used + count - 1 = omega (arith, some) in
    let same : r.octets ++ more ≡ octets ++ take (used + count - 1) q =
    ap (λ (b : List ℕ). b ++ more) held ∙ append_assoc octets (take used q) more ∙ ap (λ (b : List ℕ). octets ++ b) (sym (take-add used (count - 1) q)) ∙ ap (λ (n : ℕ). octets ++ take n q) sum in
    subst (λ (b : List ℕ). next_item s b ≡ NoItem) same (missing-none s r more fits goes (fewer more short))

pub held-offered : (octets q b : List ℕ) (used count : ℕ) → b ≡ octets ++ take used q → b ++ take count (drop used q) ≡ octets ++ take (used + count) q
held-offered octets q b used count held = ap (λ (x : List ℕ). x ++ take count (drop used q)) held ∙ append_assoc octets (take used q) (take count (drop used q)) ∙ ap (λ (x : List ℕ). octets ++ x) (sym (take-add used count q))

pub held-all : (octets q b : List ℕ) (used : ℕ) → b ≡ octets ++ take used q → b ++ drop used q ≡ octets ++ q
held-all octets q b used held = ap (λ (x : List ℕ). x ++ drop used q) held ∙ append_assoc octets (take used q) (drop used q) ∙ ap (λ (x : List ℕ). octets ++ x) (take-append-drop used q)

-- what is held and fewer octets than it lacks make none
pub short-none : (s : State) (r : Rest) (octets q : List ℕ) (used missing : ℕ) → Fits r s.core.phase → is_ended s.core.phase ≡ false → r.octets ≡ octets ++ take used q → length (drop used q) < missing
    → ((more : List ℕ) → length more < missing → item_in (found s.core.own.frame (with_more r more)) ≡ None) → next_item s (octets ++ q) ≡ NoItem
short-none s r octets q used missing fits goes held short fewer =
    subst (λ (b : List ℕ). next_item s b ≡ NoItem) (held-all octets q r.octets used held) (missing-none s r (drop used q) fits goes (fewer (drop used q) short))

-- what is held and as many octets as it lacks at the least make an item of all of them
pub offered-taken : (s t : State) (r : Rest) (octets q c out out' : List ℕ) (used count missing : ℕ) → Fits r s.core.phase → is_ended s.core.phase ≡ false → r.octets ≡ octets ++ take used q → 0 < count → count ≤ missing
    → used + count ≤ length q → ((more : List ℕ) → length more < missing → item_in (found s.core.own.frame (with_more r more)) ≡ None)
    → Takes s (r.octets ++ take count (drop used q)) out t c out'
    → TakesOne (going s (left_by s.core.phase octets)) q out (going t (left_by t.core.phase c)) out' (used + count) × (c ≡ [])
offered-taken s t r octets q c out out' used count missing fits goes held some most within fewer x =
    octets-taken s t octets q c out out' (used + count) goes (omega (arith, some)) within
    (offered-none s r octets q used count missing fits goes held some most fewer)
    (subst (λ (b : List ℕ). Takes s b out t c out') (held-offered octets q r.octets used count held) x)

-- ---- one item, and then those after it

abbrev behind_one : Event → Run → Run
behind_one e r = record { events = e ∷ r.events; state = r.state; rest = r.rest }

run-one : (s t : State) (b : List ℕ) (e : Event) (used : ℕ) → next_event s b ≡ One e t used → trace s b ≡ behind_one e (trace t (drop used b))
unfolding trace
run-one s t b e used h = rw (whole-one s t b e used h) refl

-- the octets after an item of which the first were held
cut-at : (rest q : List ℕ) (taken used : ℕ) → length rest < taken → used ≡ taken - length rest → drop taken (rest ++ q) ≡ drop used q
cut-at rest q taken used late is =
    let sum : taken ≡ length rest + used = omega (arith, late, is) in
    rw sum (drop-append-add rest q used)

run-more : (c c' : Connection) (q out out' : List ℕ) (used : ℕ) → next_item c.state c.rest ≡ NoItem → (x : TakesOne c q out c' out' used) → fed c q ≡ behind_one x.event (fed c' (drop used q))
run-more c c' q out out' used none x =
    let late : length c.rest < x.taken = used-more c.state x.next c.rest q x.event x.taken none x.comes in
    run-one c.state x.next (c.rest ++ q) x.event x.taken x.comes
    ∙ ap (λ (b : List ℕ). behind_one x.event (trace x.next b)) (cut-at c.rest q x.taken used late x.used_is)
    ∙ ap (λ (d : Connection). behind_one x.event (fed d (drop used q))) (sym x.after)

one-feeds : (c c' c'' : Connection) (q out out' out'' : List ℕ) (used n : ℕ) → next_item c.state c.rest ≡ NoItem → TakesOne c q out c' out' used → Feeds c' (drop used q) out' c'' out'' n
    → Feeds c q out c'' out'' (n + 1)
one-feeds c c' c'' q out out' out'' used n none x y =
    let run = run-more c c' q out out' used none x in
    let later : List Event = (fed c' (drop used q)).events in
    record {
      items = rw run (omega (arith, y.items));
      after = y.after ∙ ap (λ (r : Run). going r.state r.rest) (sym run);
      sent = rw (run, sent-cons x.event later) (y.sent ∙ ap (λ (o : List ℕ). o ++ sent_octets later) x.sent ∙ append_assoc out (frames_octets x.event.sent) (sent_octets later));
    }

one-halts : (c c' c'' : Connection) (q out out' out'' : List ℕ) (used : ℕ) → next_item c.state c.rest ≡ NoItem → TakesOne c q out c' out' used → Halts c' (drop used q) out' c'' out''
    → Halts c q out c'' out''
one-halts c c' c'' q out out' out'' used none x y =
    let run = run-more c c' q out out' used none x in
    let later : List Event = (fed c' (drop used q)).events in
    let from : c'.state ≡ x.event.state = ap (λ (d : Connection). d.state) x.after ∙ sym (comes-after c.state x.next (c.rest ++ q) x.event x.taken x.comes) in
    record {
      items = suc y.items;
      within = rw run (omega (arith, y.within));
      after = y.after ∙ ap (λ (s : State). halted (state_at s later y.items)) from ∙ ap (λ (r : Run). halted (state_at c.state r.events (suc y.items))) (sym run);
      sent = rw (run, sent-cons x.event (take y.items later))
          (y.sent ∙ ap (λ (o : List ℕ). o ++ sent_octets (take y.items later)) x.sent ∙ append_assoc out (frames_octets x.event.sent) (sent_octets (take y.items later)));
    }

-- where all octets wait no item is taken
pub waits-feeds : (c c' : Connection) (q out out' : List ℕ) (used : ℕ) → Waits c q out c' out' used → Feeds c q out c' out' 0
waits-feeds c c' q out out' used x =
    let none = trace-stop c.state (c.rest ++ q) x.none in
    record {
      items = ap (λ (r : Run). length r.events) (sym none);
      after = x.after ∙ ap (λ (r : Run). going r.state r.rest) (sym none);
      sent = x.sent ∙ sym (ap (λ (r : Run). out ++ sent_octets r.events) none ∙ rw sent-none (append-nil out));
    }

-- after an item of which octets were held, and that took all of them
abbrev behind : State → List ℕ → Connection
behind t c = going t (left_by t.core.phase c)

behind-none : (t : State) (c : List ℕ) → c ≡ [] → going t [] ≡ behind t c
behind-none t c e = ap (going t) (sym (ap (left_by t.core.phase) e ∙ left-none t.core.phase))

pub held-feeds : (s t : State) (d : Connection) (octets c q out out' out'' : List ℕ) (used n : ℕ) → is_ended s.core.phase ≡ false → next_item s octets ≡ NoItem → c ≡ []
    → TakesOne (behind s octets) q out (behind t c) out' used → Feeds (going t []) (drop used q) out' d out'' n → Feeds (behind s octets) q out d out'' (n + 1)
held-feeds s t d octets c q out out' out'' used n goes none e x y =
    one-feeds (behind s octets) (behind t c) d q out out' out'' used n (rw (left-going s.core.phase octets goes) none) x
    (subst (λ (b : Connection). Feeds b (drop used q) out' d out'' n) (behind-none t c e) y)

pub held-halts : (s t : State) (d : Connection) (octets c q out out' out'' : List ℕ) (used : ℕ) → is_ended s.core.phase ≡ false → next_item s octets ≡ NoItem → c ≡ []
    → TakesOne (behind s octets) q out (behind t c) out' used → Halts (going t []) (drop used q) out' d out'' → Halts (behind s octets) q out d out''
held-halts s t d octets c q out out' out'' used goes none e x y =
    one-halts (behind s octets) (behind t c) d q out out' out'' used (rw (left-going s.core.phase octets goes) none) x
    (subst (λ (b : Connection). Halts b (drop used q) out' d out'') (behind-none t c e) y)

-- ---- whether there was an item

pub one-taken : (c c' : Connection) (q out out' : List ℕ) (one : code.One) → one.item ≡ true → FeedsOne c q out c' out' one → TakesOne c q out c' out' one.used
one-taken c c' q out out' one e x = subst (λ (b : Bool). FeedsAs b c q out c' out' one.used) e x

pub one-waits : (c c' : Connection) (q out out' : List ℕ) (one : code.One) → one.item ≡ false → FeedsOne c q out c' out' one → Waits c q out c' out' one.used
one-waits c c' q out out' one e x = subst (λ (b : Bool). FeedsAs b c q out c' out' one.used) e x
