-- An item that was taken, and the same item with more octets after it.
use Rattle.std.proofs.Common.{Bool, true, false, ◌≡◌, ◌∙◌, ◌<◌, ◌≤◌, ℕ, List, [], ◌++◌, Some, length, take, drop, refl, sym, ap, subst, arith, length-take, length-append, le-ltb, ltb, ltb-false}
use Rattle.std.proofs.lemmas.List.{drop_at, take-append-le, take_all}
use Rattle.h2_spec.specs.declared.connection.Phase.{Phase}
use Rattle.h2_spec.specs.declared.connection.Phase.TheVariants as phase
use Rattle.h2_spec.specs.Frames.Frame.{Item, Next, NoItem, Got, frames_octets, head_at, next}
use Rattle.h2_spec.specs.Frames.Parse.{Front, Stop, One}
use Rattle.h2_spec.specs.State.{State}
use Rattle.h2_spec.specs.Trace.{Event, IsKept, event_on, left_by, next_event, next_in, next_item}
use Rattle.h2_spec.proofs.ParseLaws.{Stays, Uses}
use Rattle.h2_spec.proofs.TraceLaws.{event-stays, event-uses, next-stays}
use Rattle.h2_frame.proofs.MissingLaws.{head_of-append}
use Rattle.h2_conn.specs.Connection.{Connection, going}
use Rattle.h2_conn.specs.First.{TakesFirst}
use Rattle.h2_conn.specs.Reports.{reported}
use Rattle.h2_conn.specs.declared.report.TakenItem.{TakenItem}
use Rattle.h2_explain_item.specs.declared.item.Explained.{Explained}
use Rattle.h2_explain_step.specs.Explained.{ExplainsItem, IsAhead, IsItemOf, moment_of, stream_ahead, stream_in}
use Rattle.h2_explain_step.specs.declared.taking.Observed.{Observed}

-- of no octets nothing is an item
none-uses : (x : Front State Event) → Uses [] x → x ≡ Stop
none-uses Stop h = refl
none-uses (One e t used) h = absurd (omega (arith, h.0, h.1))

pub empty-stop : (s : State) → next_event s [] ≡ Stop
empty-stop s = none-uses (next_event s []) (event-uses s [])

pub left-none : (p : Phase) → left_by p [] ≡ []
left-none phase.Preface = refl
left-none phase.Settings = refl
left-none phase.Running = refl
left-none (phase.Ended code) = refl

-- ---- an item with more octets after it

got-none : (x : Item) (u : ℕ) → NoItem ≡ Got x u → ⊥
got-none x u h = cc

in-stays : (p : Phase) (limit : ℕ) (b c : List ℕ) → IsKept (next_in p limit b) (next_in p limit (b ++ c))
in-stays phase.Preface limit b c = next-stays true limit b c
in-stays phase.Settings limit b c = next-stays false limit b c
in-stays phase.Running limit b c = next-stays false limit b c
in-stays (phase.Ended code) limit b c = tt

kept-same : (s t : State) (n m : Next) (e : Event) (used : ℕ) → IsKept n m → event_on s n ≡ One e t used → m ≡ n
kept-same s t NoItem m e used k h = cc
kept-same s t (Got x u) m e used k h = k

-- it is the same one
item-same : (s t : State) (b more : List ℕ) (e : Event) (used : ℕ) → next_event s b ≡ One e t used → next_item s (b ++ more) ≡ next_item s b
unfolding next_event next_item
item-same s t b more e used h = kept-same s t (next_in s.core.phase s.core.own.frame b) (next_in s.core.phase s.core.own.frame (b ++ more)) e used (in-stays s.core.phase s.core.own.frame b more) h

-- a frame has the nine octets of its head
frame-long : (limit : ℕ) (b : List ℕ) (s t : State) (e : Event) (used : ℕ) → event_on s (next false limit b) ≡ One e t used → ltb (length b) 9 ≡ false
unfolding next
frame-long limit b s t e used h = at (ltb (length b) 9) refl
  where
    stop-one : Stop ≡ One e t used → ⊥
    stop-one g = cc

    at : (x : Bool) → ltb (length b) 9 ≡ x → ltb (length b) 9 ≡ false
    at false g = g
    at true g = absurd (stop-one (rw g at h))

head-same : (b more : List ℕ) → ltb (length b) 9 ≡ false → head_at (b ++ more) ≡ head_at b
unfolding head_at
head-same b more g =
    let long : 9 ≤ length b = ltb-false (length b) 9 g in
    let longer : ltb (length (b ++ more)) 9 ≡ false = le-ltb (length (b ++ more)) 9 (omega (arith, long, length-append b more)) in
    rw (g, longer, head_of-append b more long) refl

ahead-same : (p : Phase) (limit : ℕ) (s t : State) (b more : List ℕ) (e : Event) (used : ℕ) → event_on s (next_in p limit b) ≡ One e t used → stream_ahead p (b ++ more) ≡ stream_ahead p b
ahead-same phase.Preface limit s t b more e used h = refl
ahead-same phase.Settings limit s t b more e used h = ap stream_in (head-same b more (frame-long limit b s t e used h))
ahead-same phase.Running limit s t b more e used h = ap stream_in (head-same b more (frame-long limit b s t e used h))
ahead-same (phase.Ended code) limit s t b more e used h = cc

-- the frame at their front is on the same stream
stream-same : (s t : State) (b more : List ℕ) (e : Event) (used : ℕ) → next_event s b ≡ One e t used → stream_ahead s.core.phase (b ++ more) ≡ stream_ahead s.core.phase b
unfolding next_event next_item
stream-same s t b more e used h = ahead-same s.core.phase s.core.own.frame s t b more e used h

ahead-more : (b more : List ℕ) (used : ℕ) (ahead : List ℕ) → IsAhead b used ahead → IsAhead (b ++ more) used ahead
ahead-more b more used ahead a =
    let within : length ahead ≤ length b = omega (arith, ap length a.begins, length-take (length ahead) b) in
    record { whole = a.whole; begins = a.begins ∙ sym (take-append-le (length ahead) b more within) }

pub item-uses : (s : State) (b : List ℕ) (number offset : ℕ) (c : Connection) (x : Explained) → ExplainsItem s b number offset c x → (0 < x.used) × (x.used ≤ length b)
item-uses s b number offset c x i = subst (λ (n : Front State Event). Uses b n) i.comes (event-uses s b)

pub first-uses : (s t : State) (b out out' : List ℕ) (used : ℕ) → TakesFirst s b out t out' used → (0 < used) × (used ≤ length b)
first-uses s t b out out' used x = subst (λ (n : Front State Event). Uses b n) x.comes (event-uses s b)

pub item-more : (s : State) (b more : List ℕ) (number offset : ℕ) (c : Connection) (x : Explained) → ExplainsItem s b number offset c x → ExplainsItem s (b ++ more) number offset c x
item-more s b more number offset c x i =
    let within = item-uses s b number offset c x i in
    let stream = sym (stream-same s c.state b more i.event x.used i.comes) in
    record {
      event = i.event;
      comes = subst (λ (n : Front State Event). Stays n (next_event s (b ++ more))) i.comes (event-stays s b more);
      ready = i.ready;
      number_is = i.number_is;
      offset_is = i.offset_is;
      octets_is = i.octets_is ∙ sym (take-append-le x.used b more within.1);
      ahead_is = ahead-more b more x.used x.ahead.now i.ahead_is;
      taken_is = i.taken_is ∙ ap (reported s) (sym (item-same s c.state b more i.event x.used i.comes));
      sent_is = i.sent_is;
      before_is = i.before_is ∙ ap (moment_of s) stream;
      after_is = i.after_is ∙ ap (moment_of c.state) stream;
    }

-- what was observed of an item, with its octets and those that were sent for it, is the item
pub item-explained : (s : State) (b out out' : List ℕ) (number offset : ℕ) (c : Connection) (o : Observed) (x : Explained) → c ≡ going c.state [] → TakesFirst s b out c.state out' o.taken.used
    → Some o.taken ≡ reported s (next_item s b) → o.before ≡ moment_of s (stream_ahead s.core.phase b) → o.after ≡ moment_of c.state (stream_ahead s.core.phase b)
    → IsItemOf o number offset b (drop (length out) out') x → ExplainsItem s b number offset c x
item-explained s b out out' number offset c o x ready takes taken before after is =
    let used = ap (λ (k : TakenItem). k.used) is.taken_is in
    let first : TakesFirst s b out c.state out' x.used = subst (λ (n : ℕ). TakesFirst s b out c.state out' n) (sym used) takes in
    let uses : Uses b (One first.event c.state x.used) = subst (λ (n : Front State Event). Uses b n) first.comes (event-uses s b) in
    record {
      event = first.event;
      comes = first.comes;
      ready = ready;
      number_is = is.number_is;
      offset_is = is.offset_is;
      octets_is = is.octets_is;
      ahead_is = subst (λ (a : List ℕ). IsAhead b x.used a) (sym is.ahead_is) (record { whole = uses.1; begins = sym (take_all (length b) b (omega arith)) });
      taken_is = ap Some is.taken_is ∙ taken;
      sent_is = is.sent_is ∙ ap (drop (length out)) first.sent ∙ drop_at out (frames_octets first.event.sent) (length out) refl;
      before_is = is.before_is ∙ before;
      after_is = is.after_is ∙ after;
    }
