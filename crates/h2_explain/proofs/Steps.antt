-- An explanation that goes on, item by item and piece by piece.
use Rattle.std.proofs.Common.{true, false, IfErr, None, Result, Ok, Err, is_err, ◌≡◌, inl, inr, ◌∙◌, ◌+◌, ◌<◌, ◌≤◌, ℕ, List, [], ◌∷◌, ◌++◌, Option, Some, length, drop, refl, sym, ap, ap₂, subst, arith, option_map, length-drop, length-append, append_assoc}
use Rattle.std.proofs.lemmas.List.{append-nil, drop-append-le, drop-drop}
use Rattle.std.specs.Io.KnownBytes.{Appends}
use Rattle.h2_spec.specs.Frames.Frame.{Next, NoItem, Got}
use Rattle.h2_spec.specs.Frames.Parse.{Stop, One, Parsed, after_one}
use Rattle.h2_spec.specs.Causes.Errors.{code_number}
use Rattle.h2_spec.specs.State.{State, ended_code}
use Rattle.h2_spec.specs.Trace.{Event, Run, event_on, left_by, next_event, next_item, sent_octets, trace}
use Rattle.h2_spec.proofs.TraceLaws.{events-append}
use Rattle.h2_conn.specs.Connection.{Connection, going, is_ended}
use Rattle.h2_conn.specs.First.{TakesFirst}
use Rattle.h2_conn.specs.Runs.{Fed, Feeds, Halted, Leads, Ran, Takes}
use Rattle.h2_conn.proofs.Items.{none-after}
use Rattle.h2_conn.proofs.Runs.{leads-takes, left-ended, left-going, ran-feeds, sent-none, trace-stop, whole, whole-one, whole-stop}
use Rattle.h2_explain.specs.declared.run_explainer.RunExplainer.{RunExplainer}
use Rattle.h2_explain_item.specs.declared.item.Explained.{Explained}
use Rattle.h2_explain.specs.declared.run.Summary.{Summary}
use Rattle.h2_explain.specs.declared.run.ExplainFault.TheVariants.{NotWritten}
use Rattle.h2_explain.specs.declared.run.ExplainFault.{ExplainFault}
use Rattle.h2_explain.specs.declared.run.Form.{Form}
use Rattle.h2_explain.specs.declared.verdict.ClientVerdict.{ClientVerdict}
use Rattle.h2_explain_step.proofs.Taken.{empty-stop, left-none, item-uses, item-more}
use Rattle.h2_explain_step.specs.Explained.{ExplainsItem}
use Rattle.h2_explain.specs.Explaining.{Continues, CountsOn, EndsAs, ExplainsAll, ExplainsOn, Handles, HasGained, IsBeginning, IsCutShort, IsEndText, IsExplaining, IsNew, IsSummed, PassesBy, SaysOf, SaysSome, StopsAt, TakesItem, TakesNone}
use Rattle.h2_explain.specs.Explains.{AreExplained, Gains, IsExplanation, IsItemText, IsWritten, not_written, summary_over}
use Rattle.h2_explain.specs.Verdicts.{AreTallied, Tallied, TalliesItem, no_tally, verdict_at}

-- ---- what is written

-- a text after another
pub gains-both : (P Q R : List ℕ → Type 0) → ((t u : List ℕ) → P t → Q u → R (t ++ u)) → (a b c : Option (List ℕ)) → Gains P a b → Gains Q b c → Gains R a c
gains-both P Q R join a b c x y = λ held is.
    let one = x held is in
    let two = y (held ++ one.0) one.1 in
    (one.0 ++ two.0, two.1 ∙ ap (λ (t : List ℕ). Some t) (append_assoc held one.0 two.0), join one.0 two.0 one.2 two.2)

-- a text after another, of which it is known what comes before it
pub gains-then : (P R : List ℕ → Type 0) (a b c : Option (List ℕ)) → Gains P a b → ((t : List ℕ) → P t → Gains (λ (u : List ℕ). R (t ++ u)) b c) → Gains R a c
gains-then P R a b c x y = λ held is.
    let one = x held is in
    let two = y one.0 one.2 (held ++ one.0) one.1 in
    (one.0 ++ two.0, two.1 ∙ ap (λ (t : List ℕ). Some t) (append_assoc held one.0 two.0), two.2)

-- a text of which more is known
pub gains-map : (P Q : List ℕ → Type 0) → ((t : List ℕ) → P t → Q t) → (a b : Option (List ℕ)) → Gains P a b → Gains Q a b
gains-map P Q map a b x = λ held is. let one = x held is in (one.0, one.1, map one.0 one.2)

-- nothing was written
pub gains-none : (P : List ℕ → Type 0) → P [] → (a b : Option (List ℕ)) → b ≡ a → Gains P a b
gains-none P p a b same = λ held is. ([], same ∙ is ∙ ap (λ (t : List ℕ). Some t) (sym (append-nil held)), p)

-- a text that was written whole
pub gains-written : (P : List ℕ → Type 0) (r : Result (Unit {0}) ExplainFault) (a b : Option (List ℕ)) (t : List ℕ)
    → not_written r ≡ false → IfErr r (λ (f : ExplainFault). f ≡ NotWritten) → Appends a b t → P t → Gains (IsWritten P r) a b
gains-written P (Ok x) a (Some known) t calm only appends p = λ held is. (t, ap (λ (o : List ℕ). Some o) (subst (λ (o : Option (List ℕ)). Appends o (Some known) t) is appends), p)
gains-written P (Ok x) a None t calm only appends p = λ held is. let none : ⊥ = subst (λ (o : Option (List ℕ)). Appends o None t) is appends in absurd none
gains-written P (Err fault) a b t calm only appends p = λ held is. let e : not_written {A = Unit {0}} (Err NotWritten) ≡ false = subst (λ (f : ExplainFault). not_written {A = Unit {0}} (Err f) ≡ false) only calm in cc

-- ---- from some octets to those after some first items

continues-next : (form : Form) (s0 s : State) (b0 b : List ℕ) (items0 offset0 items offset : ℕ) (c : Connection) (x : Explained) (n0 n n' : Tallied) (t u : List ℕ)
    → ExplainsItem s b (items + 1) offset c x → TalliesItem n x n' → IsItemText form c.state x u → Continues form s0 b0 items0 offset0 n0 s b items offset n t
    → Continues form s0 b0 items0 offset0 n0 c.state (drop x.used b) (items + 1) (offset + x.used) n' (t ++ u)
continues-next form s0 s b0 b items0 offset0 items offset c x n0 n n' t u i note is on = λ later cut xs more are.
    let within = item-uses s b (items + 1) offset c x i in
    let here = subst (λ (d : List ℕ). AreExplained form cut c.state d (items + 1) (offset + x.used) n' xs more) (sym (drop-append-le x.used b later within.1)) are in
    let all = on later cut (x ∷ xs) (u ++ more) (c, item-more s b later (items + 1) offset c x i, n', note, u, more, is, refl, here) in
    (all.0, subst (λ (d : List ℕ). AreExplained form cut s0 (b0 ++ later) items0 offset0 n0 all.0 d) (sym (append_assoc t u more)) all.1)

counts-next : (s0 s : State) (b0 b : List ℕ) (items0 offset0 items offset : ℕ) (c : Connection) (x : Explained) (t0 t t' : Tallied)
    → ExplainsItem s b (items + 1) offset c x → TalliesItem t x t' → CountsOn s0 b0 items0 offset0 t0 s b items offset t
    → CountsOn s0 b0 items0 offset0 t0 c.state (drop x.used b) (items + 1) (offset + x.used) t'
counts-next s0 s b0 b items0 offset0 items offset c x t0 t t' i note on = λ later xs v are.
    let within = item-uses s b (items + 1) offset c x i in
    let here = subst (λ (d : List ℕ). AreTallied c.state d (items + 1 + 1) (offset + x.used) xs t' v) (sym (drop-append-le x.used b later within.1)) are in
    on later (x ∷ xs) v (c, item-more s b later (items + 1) offset c x i, t', note, here)

pub on-start : {A : Type 0} (e : RunExplainer A) (s : State) (b : List ℕ) (known : Option (List ℕ)) → e.items ≤ e.offset → ExplainsOn e s b known e s b known
on-start e s b known few = record {
  form_is = refl;
  items_are = omega arith;
  offset_is = refl;
  counted = few;
  state_is = refl;
  rest_is = refl;
  written = λ held is. ([], is ∙ ap (λ (t : List ℕ). Some t) (sym (append-nil held)), λ later cut xs more are. (xs, are));
  tallied = λ later xs v are. (xs, are);
}

-- one item more
pub on-next : {A : Type 0} (e e1 e2 : RunExplainer A) (s s1 : State) (b b1 : List ℕ) (c : Connection) (known known1 known2 : Option (List ℕ)) (used : ℕ)
    → ExplainsOn e s b known e1 s1 b1 known1 → (y : TakesItem e1 s1 b1 known1 e2 c known2 used) → ExplainsOn e s b known e2 c.state (drop y.item.used b1) known2
on-next e e1 e2 s s1 b b1 c known known1 known2 used x y =
    let i = y.explains in
    let u : ℕ = y.item.used in
    let within = item-uses s1 b1 (e1.items + 1) e1.offset c y.item i in
    let offset : e2.offset ≡ e1.offset + u = y.offset_is ∙ ap (λ (n : ℕ). e1.offset + n) y.used_is in
    let one : whole s1 b1 ≡ after_one i.event (whole c.state (drop u b1)) = whole-one s1 c.state b1 i.event u i.comes in
    record {
      form_is = y.form_is ∙ x.form_is;
      items_are = omega (arith, x.items_are, y.items_are, ap (λ (r : Parsed State Event). length r.elements) one);
      offset_is = omega (arith, x.offset_is, offset, within.1, length-drop u b1);
      counted = omega (arith, x.counted, y.items_are, offset, within.0);
      state_is = x.state_is ∙ ap (λ (r : Parsed State Event). r.state) one;
      rest_is = x.rest_is ∙ ap (λ (r : Parsed State Event). r.rest) one;
      written = rw (y.items_are, offset)
          (gains-both (Continues e.form s b e.items e.offset e.tally s1 b1 e1.items e1.offset e1.tally) (IsItemText e1.form c.state y.item) _
          (λ t w on is. continues-next e.form s s1 b b1 e.items e.offset e1.items e1.offset c y.item e.tally e1.tally e2.tally t w i y.tallied (subst (λ (f : Form). IsItemText f c.state y.item w) x.form_is is) on)
          known known1 known2 x.written y.written);
      tallied = rw (y.items_are, offset) (counts-next s s1 b b1 e.items e.offset e1.items e1.offset c y.item e.tally e1.tally e2.tally i y.tallied x.tallied);
    }

-- the same, where the octets are those of all after some first ones
pub on-next-at : {A : Type 0} (e e1 e2 : RunExplainer A) (s s1 : State) (b : List ℕ) (at : ℕ) (c : Connection) (known known1 known2 : Option (List ℕ)) (used : ℕ)
    → ExplainsOn e s b known e1 s1 (drop at b) known1 → TakesItem e1 s1 (drop at b) known1 e2 c known2 used → ExplainsOn e s b known e2 c.state (drop (at + used) b) known2
on-next-at e e1 e2 s s1 b at c known known1 known2 used x y =
    let past : drop y.item.used (drop at b) ≡ drop (at + used) b = ap (λ (u : ℕ). drop u (drop at b)) (sym y.used_is) ∙ drop-drop used at b in
    subst (λ (d : List ℕ). ExplainsOn e s b known e2 c.state d known2) past (on-next e e1 e2 s s1 b (drop at b) c known known1 known2 used x y)

-- an item has some of the octets
pub takes-uses : {A : Type 0} (e e1 : RunExplainer A) (s : State) (b : List ℕ) (known known1 : Option (List ℕ)) (c : Connection) (used : ℕ) → TakesItem e s b known e1 c known1 used → (0 < used) × (used ≤ length b)
takes-uses e e1 s b known known1 c used y =
    let uses = item-uses s b (e.items + 1) e.offset c y.item y.explains in
    (omega (arith, uses.0, y.used_is), omega (arith, uses.1, y.used_is))

-- the explanation of some first items is one that is cut short
pub on-cut : {A : Type 0} (e e1 : RunExplainer A) (s s1 : State) (b b1 : List ℕ) (known known1 : Option (List ℕ)) → ExplainsOn e s b known e1 s1 b1 known1 → Gains (IsCutShort e s b) known known1
on-cut e e1 s s1 b b1 known known1 x =
    gains-map (Continues e.form s b e.items e.offset e.tally s1 b1 e1.items e1.offset e1.tally) (IsCutShort e s b)
    (λ t on later. let one = on later true [] [] refl in (one.0, subst (λ (d : List ℕ). AreExplained e.form true s (b ++ later) e.items e.offset e.tally one.0 d) (append-nil t) one.1))
    known known1 x.written

-- and no item was left
pub on-none : {A : Type 0} (e f g : RunExplainer A) (s t : State) (b rest : List ℕ) (known known1 known2 : Option (List ℕ)) (c : Connection) → ExplainsOn e s b known f t rest known1 → TakesNone f t rest known1 g c known2 → ExplainsOn e s b known g c.state rest known2
on-none {A = A} e f g s t b rest known known1 known2 c x y =
    let stays : ExplainsOn e s b known (record f { explainer = record f.explainer { memory = g.explainer.memory } }) t rest known1 = record {
      form_is = x.form_is;
      items_are = x.items_are;
      offset_is = x.offset_is;
      counted = x.counted;
      state_is = x.state_is;
      rest_is = x.rest_is;
      written = x.written;
      tallied = x.tallied;
    } in
    let same : ExplainsOn e s b known g t rest known1 = subst (λ (r : RunExplainer A). ExplainsOn e s b known r t rest known1) (sym y.same) stays in
    rw (y.conn_is, y.quiet) same

-- and nothing more was written after it
pub on-cut-then : {A : Type 0} (e e1 : RunExplainer A) (s s1 : State) (b b1 : List ℕ) (known known1 known2 : Option (List ℕ)) → ExplainsOn e s b known e1 s1 b1 known1 → Gains (λ (t : List ℕ). t ≡ []) known1 known2 → Gains (IsCutShort e s b) known known2
on-cut-then e e1 s s1 b b1 known known1 known2 x y =
    gains-both (IsCutShort e s b) (λ (t : List ℕ). t ≡ []) (IsCutShort e s b)
    (λ t u cut none. subst (λ (d : List ℕ). IsCutShort e s b d) (sym (ap (λ (w : List ℕ). t ++ w) none ∙ append-nil t)) cut)
    known known1 known2 (on-cut e e1 s s1 b b1 known known1 x) y

-- ---- the connection

event-after : (s t : State) (n : Next) (e : Event) (used : ℕ) → event_on s n ≡ One e t used → e.state ≡ t
event-after s t NoItem e used h = cc
event-after s t (Got x u) e used h = cc

comes-after : (s t : State) (b : List ℕ) (e : Event) (used : ℕ) → next_event s b ≡ One e t used → e.state ≡ t
unfolding next_event
comes-after s t b e used h = event-after s t (next_item s b) e used h

pub first-takes : (s t : State) (b out out' : List ℕ) (used : ℕ) → TakesFirst s b out t out' used → Takes s b out t (drop used b) out'
first-takes s t b out out' used x = record { event = x.event; used = used; comes = x.comes; after = comes-after s t b x.event used x.comes; rest = refl; sent = x.sent; short = x.short }

pub leads-halted : (s t : State) (n : ℕ) (b c out out' : List ℕ) → Leads s b out n t c out' → Halted s b out t out'
leads-halted s t n b c out out' l = record { items = n; within = l.within; after = sym l.after; sent = l.sent }

-- an item was taken after some, or none
pub leads-stopped : (s t u : State) (n : ℕ) (b c out out' out'' : List ℕ) → Leads s b out n t c out' → StopsAt t c out' u out'' → Halted s b out u out''
leads-stopped s t u n b c out out' out'' l (inl same) = rw (same.0, same.1) (leads-halted s t n b c out out' l)
leads-stopped s t u n b c out out' out'' l (inr one) =
    leads-halted s u (n + 1) b (drop one.0 c) out out'' (leads-takes s t u n b c (drop one.0 c) out out' out'' l (first-takes t u c out' out'' one.0 one.1))

-- after the end nothing comes
pub late-feeds : (s : State) (held q out : List ℕ) → is_ended s.core.phase ≡ true → Fed (going s held) q out (going s []) out
late-feeds s held q out h =
    let none : trace s (held ++ q) ≡ record { events = []; state = s; rest = left_by s.core.phase (held ++ q) } = trace-stop s (held ++ q) (none-after s (held ++ q) h) in (
      0,
      record {
        items = ap (λ (r : Run). length r.events) (sym none);
        after = ap (going s) (sym (left-ended s.core.phase (held ++ q) h)) ∙ ap (λ (r : Run). going r.state r.rest) (sym none);
        sent = sym (ap (λ (r : Run). out ++ sent_octets r.events) none ∙ rw sent-none (append-nil out));
      },
    )

-- ---- what is held

-- the octets and counts of an explanation that were not those of its items are others now
all-same : {A : Type 0} (e e1 e2 : RunExplainer A) (s s' : State) (b rest : List ℕ) (known known' : Option (List ℕ)) → ExplainsAll e s b known e1 s' rest known'
    → e2.form ≡ e1.form → e2.items ≡ e1.items → e2.offset ≡ e1.offset → e2.tally ≡ e1.tally → ExplainsAll e s b known e2 s' rest known'
all-same e e1 e2 s s' b rest known known' x form items offset tally =
    let on = x.on in
    record {
      on = record {
        form_is = form ∙ on.form_is;
        items_are = omega (arith, on.items_are, items);
        offset_is = omega (arith, on.offset_is, offset);
        counted = omega (arith, on.counted, items, offset);
        state_is = on.state_is;
        rest_is = on.rest_is;
        written = rw (items, offset, tally) on.written;
        tallied = rw (items, offset, tally) on.tallied;
      };
      stops = x.stops;
    }

-- they were others before
pub all-from : {A : Type 0} (e e0 e1 : RunExplainer A) (s s' : State) (b rest : List ℕ) (known known' : Option (List ℕ)) → ExplainsAll e0 s b known e1 s' rest known'
    → e.form ≡ e0.form → e.items ≡ e0.items → e.offset ≡ e0.offset → e.tally ≡ e0.tally → ExplainsAll e s b known e1 s' rest known'
all-from e e0 e1 s s' b rest known known' x form items offset tally =
    let on = x.on in
    record {
      on = record {
        form_is = on.form_is ∙ sym form;
        items_are = omega (arith, on.items_are, items);
        offset_is = omega (arith, on.offset_is, offset);
        counted = on.counted;
        state_is = on.state_is;
        rest_is = on.rest_is;
        written = rw (form, items, offset, tally) on.written;
        tallied = rw (items, offset, tally) on.tallied;
      };
      stops = x.stops;
    }

-- the rest is held, or counted
pub handles : {A : Type 0} (e e1 e2 : RunExplainer A) (s s' : State) (b rest : List ℕ) (known known' : Option (List ℕ)) → ExplainsAll e s b known e1 s' rest known'
    → e2.form ≡ e1.form → e2.items ≡ e1.items → e2.offset ≡ e1.offset → e2.tally ≡ e1.tally
    → e2.held.items ≡ left_by s'.core.phase rest → length e2.held.items + e2.late ≡ e.late + length rest → Handles e s b known e2 s' known'
handles e e1 e2 s s' b rest known known' x form items offset tally held left =
    record { rest = rest; all = all-same e e1 e2 s s' b rest known known' x form items offset tally; leaves = record { held_is = held; left_is = left } }

-- all items were taken of the octets that were held and of a piece
pub fed-all : (s s' : State) (held q out out' rest h : List ℕ) → (n : ℕ) × Ran s (held ++ q) out s' rest out' n → h ≡ left_by s'.core.phase rest → Fed (going s held) q out (going s' h) out'
fed-all s s' held q out out' rest h x is =
    (x.0, subst (λ (d : List ℕ). Feeds (going s held) q out (going s' d) out' x.0) (sym is) (ran-feeds s s' held q out rest out' x.0 x.1))

-- how many octets there are now
pub handles-room : {A : Type 0} (e e' : RunExplainer A) (s s' : State) (piece : List ℕ) (known known' : Option (List ℕ)) → Handles e s (e.held.items ++ piece) known e' s' known' → HasGained e (length piece) e'
handles-room e e' s s' piece known known' h =
    (h.all.on.counted, omega (arith, h.all.on.offset_is, h.leaves.left_is, length-append e.held.items piece))

-- ---- over all octets that came

-- what a piece leads to from the octets that were left
abbrev After : State → List ℕ → List ℕ → State → List ℕ → Type 0
After s0 b0 piece s' rest = ((whole s0 (b0 ++ piece)).state ≡ s') × ((whole s0 (b0 ++ piece)).rest ≡ rest)

left-held : {A : Type 0} (s0 : State) (b0 : List ℕ) (c : Connection) (e : RunExplainer A) → IsExplaining s0 b0 c e → is_ended c.state.core.phase ≡ false → e.held.items ≡ (whole s0 b0).rest
left-held s0 b0 c e x goes =
    let same : c.state ≡ (whole s0 b0).state = ap (λ (d : Connection). d.state) x.after in
    x.held_is ∙ left-going (whole s0 b0).state.core.phase (whole s0 b0).rest (subst (λ (s : State). is_ended s.core.phase ≡ false) same goes)

-- from the octets that were left
from-left : {A : Type 0} (s0 : State) (b0 piece : List ℕ) (c c' : Connection) (e e' : RunExplainer A) (known known' : Option (List ℕ)) → IsExplaining s0 b0 c e → is_ended c.state.core.phase ≡ false
    → Handles e c.state (e.held.items ++ piece) known e' c'.state known'
    → Handles e (whole s0 b0).state ((whole s0 b0).rest ++ piece) known e' c'.state known'
from-left s0 b0 piece c c' e e' known known' x goes h =
    subst (λ (s : State). Handles e s ((whole s0 b0).rest ++ piece) known e' c'.state known') (ap (λ (d : Connection). d.state) x.after)
    (subst (λ (b : List ℕ). Handles e c.state (b ++ piece) known e' c'.state known') (left-held s0 b0 c e x goes) h)

leads-on : {A : Type 0} (s0 : State) (b0 piece : List ℕ) (s' : State) (e e' : RunExplainer A) (known known' : Option (List ℕ))
    → (h : Handles e (whole s0 b0).state ((whole s0 b0).rest ++ piece) known e' s' known') → After s0 b0 piece s' h.rest
leads-on s0 b0 piece s' e e' known known' h =
    let all = events-append s0 b0 piece in
    let stop = whole-stop s' h.rest h.all.stops in (
      ap (λ (r : Parsed State Event). r.state) all ∙ h.all.on.state_is ∙ ap (λ (r : Parsed State Event). r.state) stop,
      ap (λ (r : Parsed State Event). r.rest) all ∙ h.all.on.rest_is ∙ ap (λ (r : Parsed State Event). r.rest) stop,
    )

tallies-on : (s0 : State) (b0 piece : List ℕ) (s s' : State) (r r' : List ℕ) (items offset items' offset' : ℕ) (t t' : Tallied)
    → CountsOn s0 b0 0 0 no_tally s r items offset t → CountsOn s (r ++ piece) items offset t s' r' items' offset' t' → CountsOn s0 (b0 ++ piece) 0 0 no_tally s' r' items' offset' t'
tallies-on s0 b0 piece s s' r r' items offset items' offset' t t' x y = λ later xs v are.
    let one = y later xs v are in
    let two = x (piece ++ later) one.0 v (subst (λ (b : List ℕ). AreTallied s b (items + 1) offset one.0 t v) (append_assoc r piece later) one.1) in
    (two.0, subst (λ (b : List ℕ). AreTallied s0 b (0 + 1) 0 two.0 no_tally v) (sym (append_assoc b0 piece later)) two.1)

texts-on : (form : Form) (s0 : State) (b0 piece : List ℕ) (s s' : State) (r r' : List ℕ) (items offset items' offset' : ℕ) (t t' : Tallied) (text more : List ℕ)
    → Continues form s0 b0 0 0 no_tally s r items offset t text → Continues form s (r ++ piece) items offset t s' r' items' offset' t' more
    → Continues form s0 (b0 ++ piece) 0 0 no_tally s' r' items' offset' t' (text ++ more)
texts-on form s0 b0 piece s s' r r' items offset items' offset' t t' text more x y = λ later cut xs u are.
    let one = y later cut xs u are in
    let two = x (piece ++ later) cut one.0 (more ++ u) (subst (λ (b : List ℕ). AreExplained form cut s b items offset t one.0 (more ++ u)) (append_assoc r piece later) one.1) in (
      two.0,
      subst (λ (b : List ℕ). AreExplained form cut s0 b 0 0 no_tally two.0 ((text ++ more) ++ u)) (sym (append_assoc b0 piece later))
          (subst (λ (w : List ℕ). AreExplained form cut s0 (b0 ++ (piece ++ later)) 0 0 no_tally two.0 w) (sym (append_assoc text more u)) two.1),
    )

pub explaining-goes : {A : Type 0} (s0 : State) (b0 piece : List ℕ) (c c' : Connection) (e e' : RunExplainer A) (known known' : Option (List ℕ)) → c' ≡ going c'.state [] → is_ended c.state.core.phase ≡ false
    → Handles e c.state (e.held.items ++ piece) known e' c'.state known' → IsExplaining s0 b0 c e → IsExplaining s0 (b0 ++ piece) c' e'
explaining-goes s0 b0 piece c c' e e' known known' ready goes given x =
    let h = from-left s0 b0 piece c c' e e' known known' x goes given in
    let r : Parsed State Event = whole s0 b0 in
    let on = h.all.on in
    let after = leads-on s0 b0 piece c'.state e e' known known' h in
    let stop = whole-stop c'.state h.rest h.all.stops in
    let many = ap (λ (p : Parsed State Event). length p.elements) (events-append s0 b0 piece) ∙ length-append r.elements (whole r.state (r.rest ++ piece)).elements in
    let held : length e.held.items ≡ length r.rest = ap length (left-held s0 b0 c e x goes) in
    record {
      after = rw after.0 ready;
      stops = rw (after.0, after.1) h.all.stops;
      items_are = omega (arith, many, on.items_are, x.items_are, ap (λ (p : Parsed State Event). length p.elements) stop);
      offset_is = rw after.1 (omega (arith, on.offset_is, x.offset_is, length-append r.rest piece, length-append b0 piece));
      held_is = rw (after.0, after.1) h.leaves.held_is;
      left_is = rw after.1 (omega (arith, h.leaves.left_is, x.left_is, held));
      tallied = rw (after.0, after.1) (tallies-on s0 b0 piece r.state c'.state r.rest h.rest e.items e.offset e'.items e'.offset e.tally e'.tally x.tallied on.tallied);
    }

pub explaining-says : {A : Type 0} (c c' : Connection) (piece : List ℕ) (e e' : RunExplainer A) (known known' : Option (List ℕ)) → is_ended c.state.core.phase ≡ false
    → Handles e c.state (e.held.items ++ piece) known e' c'.state known' → SaysOf c e piece e' known known'
explaining-says c c' piece e e' known known' goes given = λ s0 b0 text x begins.
    let h = from-left s0 b0 piece c c' e e' known known' x goes given in
    let r : Parsed State Event = whole s0 b0 in
    let after = leads-on s0 b0 piece c'.state e e' known known' h in
    gains-map (Continues e.form r.state (r.rest ++ piece) e.items e.offset e.tally c'.state h.rest e'.items e'.offset e'.tally) _
    (λ more on. rw (h.all.on.form_is, after.0, after.1) (texts-on e.form s0 b0 piece r.state c'.state r.rest h.rest e.items e.offset e'.items e'.offset e.tally e'.tally text more begins on))
    known known' h.all.on.written

pub explaining-cut : {A : Type 0} (c : Connection) (piece : List ℕ) (e : RunExplainer A) (known known' : Option (List ℕ)) → is_ended c.state.core.phase ≡ false
    → Gains (IsCutShort e c.state (e.held.items ++ piece)) known known' → SaysSome c e piece known known'
explaining-cut c piece e known known' goes given = λ s0 b0 text x begins.
    let r : Parsed State Event = whole s0 b0 in
    let same : c.state ≡ r.state = ap (λ (d : Connection). d.state) x.after in
    gains-map (IsCutShort e c.state (e.held.items ++ piece)) _
    (λ more cut later.
    let one = cut later in
    let here = subst (λ (b : List ℕ). AreExplained e.form true c.state b e.items e.offset e.tally one.0 more) (append_assoc e.held.items piece later ∙ ap (λ (b : List ℕ). b ++ (piece ++ later)) (left-held s0 b0 c e x goes)) one.1 in
    let two = begins (piece ++ later) true one.0 more (subst (λ (s : State). AreExplained e.form true s (r.rest ++ (piece ++ later)) e.items e.offset e.tally one.0 more) same here) in
    (two.0, subst (λ (b : List ℕ). AreExplained e.form true s0 b 0 0 no_tally two.0 (text ++ more)) (sym (append_assoc b0 piece later)) two.1))
    known known' given

-- ---- after the end of the connection

pub late-goes : {A : Type 0} (s0 : State) (b0 piece : List ℕ) (c : Connection) (e e' : RunExplainer A) → is_ended c.state.core.phase ≡ true → PassesBy e (length piece) e' → IsExplaining s0 b0 c e → IsExplaining s0 (b0 ++ piece) c e'
late-goes s0 b0 piece c e e' over p x =
    let r : Parsed State Event = whole s0 b0 in
    let same : c.state ≡ r.state = ap (λ (d : Connection). d.state) x.after in
    let ended : is_ended r.state.core.phase ≡ true = subst (λ (s : State). is_ended s.core.phase ≡ true) same over in
    let stop = none-after r.state (r.rest ++ piece) ended in
    let all = events-append s0 b0 piece ∙ ap (λ (p : Parsed State Event). record { elements = r.elements ++ p.elements; state = p.state; rest = p.rest }) (whole-stop r.state (r.rest ++ piece) stop) in
    let st : (whole s0 (b0 ++ piece)).state ≡ r.state = ap (λ (p : Parsed State Event). p.state) all in
    let rest : (whole s0 (b0 ++ piece)).rest ≡ r.rest ++ piece = ap (λ (p : Parsed State Event). p.rest) all in
    let many = ap (λ (p : Parsed State Event). length p.elements) all ∙ length-append r.elements [] in
    let none : length e.held.items ≡ 0 = ap length (x.held_is ∙ left-ended r.state.core.phase r.rest ended) in
    record {
      after = rw st x.after;
      stops = rw (st, rest) stop;
      items_are = omega (arith, many, p.items_are, x.items_are);
      offset_is = rw rest (omega (arith, p.offset_is, x.offset_is, length-append r.rest piece, length-append b0 piece));
      held_is = rw (st, rest) (p.held_is ∙ sym (left-ended r.state.core.phase (r.rest ++ piece) ended));
      left_is = rw rest (omega (arith, x.left_is, none, ap length p.held_is, p.late_is, length-append r.rest piece));
      tallied = rw (st, rest, p.items_are, p.offset_is, p.tally_is) (tallies-on s0 b0 piece r.state r.state r.rest (r.rest ++ piece) e.items e.offset e.items e.offset e.tally e.tally x.tallied (λ later xs v are. (xs, are)));
    }

pub late-says : {A : Type 0} (c : Connection) (piece : List ℕ) (e e' : RunExplainer A) (known : Option (List ℕ)) → is_ended c.state.core.phase ≡ true → PassesBy e (length piece) e'
    → SaysOf c e piece e' known known
late-says c piece e e' known over p = λ s0 b0 text x begins.
    let r : Parsed State Event = whole s0 b0 in
    let same : c.state ≡ r.state = ap (λ (d : Connection). d.state) x.after in
    let ended : is_ended r.state.core.phase ≡ true = subst (λ (s : State). is_ended s.core.phase ≡ true) same over in
    let all = events-append s0 b0 piece ∙ ap (λ (p : Parsed State Event). record { elements = r.elements ++ p.elements; state = p.state; rest = p.rest }) (whole-stop r.state (r.rest ++ piece) (none-after r.state (r.rest ++ piece) ended)) in
    let st : (whole s0 (b0 ++ piece)).state ≡ r.state = ap (λ (p : Parsed State Event). p.state) all in
    let rest : (whole s0 (b0 ++ piece)).rest ≡ r.rest ++ piece = ap (λ (p : Parsed State Event). p.rest) all in
    gains-none (λ (more : List ℕ). IsBeginning s0 (b0 ++ piece) e' (text ++ more))
    (rw (p.form_is, p.items_are, p.offset_is, p.tally_is, st, rest) (texts-on e.form s0 b0 piece r.state r.state r.rest (r.rest ++ piece) e.items e.offset e.items e.offset e.tally e.tally text [] begins (λ later cut xs more are. (xs, are))))
    known known refl

-- ---- the beginning and the end

new-run : (s : State) → whole s [] ≡ record { elements = []; state = s; rest = [] }
new-run s = whole-stop s [] (empty-stop s)

pub new-explains : {A : Type 0} (form : Form) (s : State) (e : RunExplainer A) → IsNew form e → IsExplaining s [] (going s []) e
new-explains form s e n =
    let run = new-run s in
    record {
      after = rw run refl;
      stops = rw run (empty-stop s);
      items_are = rw run n.items_are;
      offset_is = rw (run, n.offset_is) refl;
      held_is = rw run (n.held_is ∙ sym (left-none s.core.phase));
      left_is = rw (run, n.held_is, n.late_is) refl;
      tallied = rw (run, n.items_are, n.offset_is, n.tally_is) (λ later xs v are. (xs, are));
    }

pub new-begins : {A : Type 0} (form : Form) (s : State) (e : RunExplainer A) → IsNew form e → IsBeginning s [] e []
new-begins form s e n = rw (new-run s, n.items_are, n.offset_is, n.tally_is) (λ later cut xs more are. (xs, are))

pub end-says : {A : Type 0} (c : Connection) (e : RunExplainer A) (r : Result (Unit {0}) ExplainFault) (known known' : Option (List ℕ))
    → Gains (IsWritten (IsEndText e c.state) r) known known' → EndsAs (is_err r) c e known known'
end-says c e r known known' given = λ s0 b0 text x begins. gains-map _ _ (said s0 b0 text x begins r) known known' given
  where
    said : (s0 : State) (b0 text : List ℕ) → IsExplaining s0 b0 c e → IsBeginning s0 b0 e text → (q : Result (Unit {0}) ExplainFault) (more : List ℕ)
        → IsWritten (IsEndText e c.state) q more → IsExplanation e.form (is_err q) s0 b0 (text ++ more)
    said s0 b0 text x begins (Ok u) more is =
        let rest : List ℕ = (whole s0 b0).rest in
        let all : rest ++ [] ≡ rest = append-nil rest in
        let same : c.state ≡ (whole s0 b0).state = ap (λ (d : Connection). d.state) x.after in
        let said : IsEndText e (whole s0 b0).state more = subst (λ (s : State). IsEndText e s more) same is in
        let one = begins [] false [] more (rw (all, ← x.left_is) (x.stops, said)) in
        (one.0, subst (λ (b : List ℕ). AreExplained e.form false s0 b 0 0 no_tally one.0 (text ++ more)) (append-nil b0) one.1)
    said s0 b0 text x begins (Err fault) more none =
        let one = begins [] true [] more none in
        (one.0, subst (λ (b : List ℕ). AreExplained e.form true s0 b 0 0 no_tally one.0 (text ++ more)) (append-nil b0) one.1)

abbrev summary_with : ClientVerdict → ℕ → Option ℕ → Summary
summary_with verdict items ended = record { items = items; ended = ended; verdict = verdict }

summary-run : (s : State) (b : List ℕ) (v : ClientVerdict) → summary_with v (length (whole s b).elements) (option_map code_number (ended_code (whole s b).state.core.phase)) ≡ summary_over s b v
unfolding trace
summary-run s b v = refl

pub end-summed : {A : Type 0} (c : Connection) (e : RunExplainer A) (r : Summary) (left : ℕ) → r.items ≡ e.items → r.ended ≡ option_map code_number (ended_code c.state.core.phase) → left ≡ length e.held.items + e.late
    → r.verdict ≡ verdict_at e.tally c.state left → IsSummed c e r
end-summed c e r left items ended long verdict = λ s b x.
    let run : Parsed State Event = whole s b in
    let same : c.state ≡ run.state = ap (λ (d : Connection). d.state) x.after in
    let all : run.rest ++ [] ≡ run.rest = append-nil run.rest in
    let said : r.verdict ≡ verdict_at e.tally run.state (length (run.rest ++ [])) = verdict ∙ ap₂ (λ (t : State) (n : ℕ). verdict_at e.tally t n) same (long ∙ x.left_is ∙ ap length (sym all)) in
    let stops : next_event run.state (run.rest ++ []) ≡ Stop = rw all x.stops in
    let one = x.tallied [] [] r.verdict (stops, said) in (
      ap₂ (summary_with r.verdict) (items ∙ x.items_are) (ended ∙ ap (λ (t : State). option_map code_number (ended_code t.core.phase)) same) ∙ summary-run s b r.verdict,
      (one.0, subst (λ (d : List ℕ). AreTallied s d (0 + 1) 0 one.0 no_tally r.verdict) (append-nil b) one.1),
    )

-- a run over all octets at once
pub all-run : {A : Type 0} (s : State) (b : List ℕ) (c : Connection) (e : RunExplainer A) → IsExplaining s b c e → c ≡ going (trace s b).state []
unfolding trace
all-run s b c e x = x.after
