-- Heads of items, frames in octets, and breakpoints.
use Rattle.std.proofs.Common.{◌≡◌, ◌∙◌, ◌⊎◌, inl, inr, ℕ, zero, suc, ◌+◌, ◌*◌, ◌/◌, ◌%◌, ◌<◌, ◌≤◌, List, [], ◌∷◌, ◌++◌, length, drop, Bool, true, false, cond, Option, Some, None, ◌==◌, nat_eq, eqb, ltb, refl, sym, ap, subst, true≢false, arith, drop_of_length-le, length-append, length-drop, le-ltb, ltb-true, eq-eqb}
use Rattle.std.proofs.lemmas.Bool.{cases_lt, cond_both, ltb-false, ne_eqb}
use Rattle.std.proofs.lemmas.List.{drop-drop}
use Rattle.std.specs.List.{common_prefix_len, list_any}
use Rattle.std.specs.Prelude.{nat_lt, slice_get, slice_range}
use Rattle.h2_spec.specs.declared.connection.Phase.{Phase}
use Rattle.h2_spec.specs.declared.connection.Phase.TheVariants as phase
use Rattle.h2_spec.specs.declared.frames.Head.{Head}
use Rattle.h2_spec.specs.Texts.Debug.{Break, head_is, matches, stop, stop_from}
use Rattle.h2_spec.specs.Frames.Frame.{Frame, Item, Preface, BadPreface, WholeFrame, Oversize, Next, NoItem, Got, frame_item, frame_octets, frames_octets, head_at, head_of, next, preface, preface_item}
use Rattle.h2_spec.specs.Frames.Parse.{One}
use Rattle.h2_spec.specs.State.{State}
use Rattle.h2_spec.specs.Trace.{Event, event_on, next_event, next_in, next_item}
use Rattle.h2_conn.specs.Connection.{awaits_preface}
use Rattle.h2_spec.specs.Does.{AreShort, IsShortFrame}
use Rattle.h2_debug.specs.Items.{IsItem, head_of_item}
use Rattle.h2_debug.specs.Stops.{IsMatched, IsStop, event_to}
use Rattle.h2_debug.specs.Places.{Placed, Source, TakesItem, events}

-- ---- the head of an item

-- an item, if there is one, has this head
abbrev HasHead : Option Head → Next → Type 0
HasHead h NoItem = Unit {0}
HasHead h (Got x used) = head_of_item x ≡ h

preface_item-head : (same : ℕ) (b : List ℕ) → HasHead None (preface_item same b)
preface_item-head same b =
    cond_both (eqb same 24) (Got Preface 24) (cond (ltb same (length b)) (Got BadPreface (same + 1)) NoItem) (HasHead None)
    (λ e. refl) (λ e. cond_both (ltb same (length b)) (Got BadPreface (same + 1)) NoItem (HasHead None) (λ g. refl) (λ g. tt))

frame_item-head : (limit : ℕ) (h : Head) (b : List ℕ) → HasHead (Some h) (frame_item limit h b)
frame_item-head limit h b =
    cond_both (nat_lt limit h.length) (Got (Oversize h) 9) (cond (nat_lt (length b) (9 + h.length)) NoItem (Got (WholeFrame h (slice_range b 9 (9 + h.length))) (9 + h.length))) (HasHead (Some h)) (λ e. refl)
    (λ e. cond_both (nat_lt (length b) (9 + h.length)) NoItem (Got (WholeFrame h (slice_range b 9 (9 + h.length))) (9 + h.length)) (HasHead (Some h)) (λ f. tt) (λ f. refl))

preface-head : (limit : ℕ) (b : List ℕ) → HasHead None (next true limit b)
unfolding next
preface-head limit b = preface_item-head (common_prefix_len nat_eq b preface) b

frame-head : (limit : ℕ) (b : List ℕ) → HasHead (head_at b) (next false limit b)
unfolding next head_at
frame-head limit b = go (nat_lt (length b) 9)
  where
    go : (t : Bool) → HasHead (cond t None (Some (head_of b))) (cond t NoItem (frame_item limit (head_of b) b))
    go true = tt
    go false = frame_item-head limit (head_of b) b

next-head : (p : Phase) (limit : ℕ) (b : List ℕ) → HasHead (cond (awaits_preface p) None (head_at b)) (next_in p limit b)
next-head phase.Preface limit b = preface-head limit b
next-head phase.Settings limit b = frame-head limit b
next-head phase.Running limit b = frame-head limit b
next-head (phase.Ended code) limit b = tt

event-head : (s t : State) (n : Next) (h : Option Head) (e : Event) (used : ℕ) → HasHead h n → event_on s n ≡ One e t used → head_of_item e.item ≡ h
event-head s t NoItem h e used g i = cc
event-head s t (Got x used') h e used g i = let same : x ≡ e.item = cc in rw (← same) g

-- the head of the next item: the first head in the octets, unless the preface is awaited
pub comes-head : (s t : State) (b : List ℕ) (e : Event) (used : ℕ) → next_event s b ≡ One e t used → head_of_item e.item ≡ cond (awaits_preface s.core.phase) None (head_at b)
unfolding next_event next_item
comes-head s t b e used h = event-head s t (next_in s.core.phase s.core.own.frame b) _ e used (next-head s.core.phase s.core.own.frame b) h

-- ---- a test of the head

pub head_is-none : (test : Head → Bool) (x : Item) → head_of_item x ≡ None → head_is test x ≡ false
head_is-none test Preface h = refl
head_is-none test BadPreface h = refl
head_is-none test (WholeFrame g p) h = cc
head_is-none test (Oversize g) h = cc

pub head_is-some : (test : Head → Bool) (x : Item) (g : Head) → head_of_item x ≡ Some g → head_is test x ≡ test g
head_is-some test Preface g h = cc
head_is-some test BadPreface g h = cc
head_is-some test (WholeFrame k p) g h = let same : k ≡ g = cc in ap test same
head_is-some test (Oversize k) g h = let same : k ≡ g = cc in ap test same

-- ---- frames in octets

-- a number below 2 ^ 24 is read back from its three digits
three-digits : (n : ℕ) → n < 16777216 → 65536 * (n / 65536 % 256) + 256 * (n / 256 % 256) + n / 1 % 256 ≡ n
three-digits n h = omega arith

pub length-frame : (f : Frame) (more : List ℕ) → length (frame_octets f ++ more) ≡ 9 + length f.payload + length more
unfolding frame_octets
length-frame f more = let both = length-append f.payload more in omega arith

spelled : (f : Frame) (more : List ℕ) → IsShortFrame f → ((head_of (frame_octets f ++ more)).length ≡ length f.payload) × ((head_of (frame_octets f ++ more)).kind ≡ f.kind)
unfolding head_of frame_octets
spelled f more short = (three-digits (length f.payload) short, refl)

-- the head that is read of a frame has the frame's length and type
pub frame-read : (f : Frame) (more : List ℕ) (h : Head) → IsShortFrame f → head_at (frame_octets f ++ more) ≡ Some h → (h.length ≡ length f.payload) × (h.kind ≡ f.kind)
unfolding head_at
frame-read f more h short e =
    let count = length-frame f more in
    let enough : nat_lt (length (frame_octets f ++ more)) 9 ≡ false = le-ltb (length (frame_octets f ++ more)) 9 (omega arith) in
    let same : head_of (frame_octets f ++ more) ≡ h = cc (rw enough at e) in
    rw (← same) (spelled f more short)

pub frame-found : (f : Frame) (more : List ℕ) → head_at (frame_octets f ++ more) ≡ None → ⊥
unfolding head_at
frame-found f more e =
    let count = length-frame f more in
    let enough : nat_lt (length (frame_octets f ++ more)) 9 ≡ false = le-ltb (length (frame_octets f ++ more)) 9 (omega arith) in
    cc (rw enough at e)

drop-past : (xs ys : List ℕ) → drop (length xs) (xs ++ ys) ≡ ys
drop-past [] ys = refl
drop-past (x ∷ xs) ys = drop-past xs ys

pub frame-behind : (f : Frame) (more : List ℕ) (n : ℕ) → n ≡ length f.payload → drop (9 + n) (frame_octets f ++ more) ≡ more
unfolding frame_octets
frame-behind f more n e = sym (drop-drop n 9 (frame_octets f ++ more)) ∙ rw e (drop-past f.payload more)

pub head_at-nothing : head_at [] ≡ None
unfolding head_at
head_at-nothing = refl

-- ---- a search through frames

-- of the frames that octets were, these are left, and whether one of all has the type is whether one of these has it
pub record Left (frames : List Frame) (kind : ℕ) (rest : List ℕ) : Type 0 where
  pub later : List Frame
  pub octets : rest ≡ frames_octets later
  pub short : AreShort later
  pub same : list_any (λ f. f.kind == kind) frames ≡ list_any (λ f. f.kind == kind) later

pub left-all : (frames : List Frame) (kind : ℕ) (octets : List ℕ) → octets ≡ frames_octets frames → AreShort frames → Left frames kind octets
left-all frames kind octets e short = record { later = frames; octets = e; short = short; same = refl }

-- the first of them has another type
pub left-next : (frames : List Frame) (kind found : ℕ) (rest more : List ℕ) → Left frames kind rest → (rest ≡ [] → ⊥)
    → ((f : Frame) (m : List ℕ) → rest ≡ frame_octets f ++ m → IsShortFrame f → (found ≡ f.kind) × (more ≡ m)) → (found ≡ kind → ⊥) → Left frames kind more
left-next frames kind found rest more x some first other = at x.later x.octets x.short x.same
  where
    at : (later : List Frame) → rest ≡ frames_octets later → AreShort later → list_any (λ f. f.kind == kind) frames ≡ list_any (λ f. f.kind == kind) later → Left frames kind more
    at [] e short same = absurd (some e)
    at (f ∷ fs) e short same =
        let one = first f (frames_octets fs) e short.0 in
        let others : (f.kind == kind) ≡ false = ne_eqb f.kind kind (λ same. other (one.0 ∙ same)) in
        record { later = fs; octets = one.1; short = short.1; same = rw others at same }

-- the first of them has the type
pub left-found : (frames : List Frame) (kind found : ℕ) (rest more : List ℕ) → Left frames kind rest → (rest ≡ [] → ⊥)
    → ((f : Frame) (m : List ℕ) → rest ≡ frame_octets f ++ m → IsShortFrame f → (found ≡ f.kind) × (more ≡ m)) → found ≡ kind → list_any (λ f. f.kind == kind) frames ≡ true
left-found frames kind found rest more x some first this = at x.later x.octets x.short x.same
  where
    at : (later : List Frame) → rest ≡ frames_octets later → AreShort later → list_any (λ f. f.kind == kind) frames ≡ list_any (λ f. f.kind == kind) later → list_any (λ f. f.kind == kind) frames ≡ true
    at [] e short same = absurd (some e)
    at (f ∷ fs) e short same =
        let one = first f (frames_octets fs) e short.0 in
        let found_here : (f.kind == kind) ≡ true = eq-eqb f.kind kind (sym one.0 ∙ this) in
        rw found_here at same

-- none is left
pub left-none : (frames : List Frame) (kind : ℕ) (rest : List ℕ) → Left frames kind rest → ((f : Frame) (m : List ℕ) → rest ≡ frame_octets f ++ m → IsShortFrame f → ⊥) → list_any (λ f. f.kind == kind) frames ≡ false
left-none frames kind rest x none = at x.later x.octets x.short x.same
  where
    at : (later : List Frame) → rest ≡ frames_octets later → AreShort later → list_any (λ f. f.kind == kind) frames ≡ list_any (λ f. f.kind == kind) later → list_any (λ f. f.kind == kind) frames ≡ false
    at [] e short same = same
    at (f ∷ fs) e short same = absurd (none f (frames_octets fs) e short.0)

-- ---- where a run stops

-- at the end it goes no further
pub stop-end : (breaks : List Break) (es : List Event) (p : ℕ) → p ≡ length es → stop breaks es p ≡ p
unfolding stop
stop-end breaks es p e =
    let none : drop p es ≡ [] = drop_of_length-le es (omega (arith, e)) in
    rw none (omega arith)

-- what the breakpoints say of the next item, by what is known of it
abbrev Says : Source → Placed → Placed → List Break → Bool → Type 0
Says r before after breaks answer = (e : Event) → IsItem after.position (drop before.used r.octets) after.sent e → answer ≡ list_any (matches after.position e) breaks

-- the next item matches
pub stop-here : (r : Source) (before after : Placed) (breaks : List Break) (answer : Bool) → TakesItem r before after → Says r before after breaks answer → answer ≡ true → stop breaks (events r) before.position ≡ after.position
unfolding stop
stop-here r before after breaks answer took says this =
    let next : list_any (matches (before.position + 1) took.event) breaks ≡ true = rw (← took.next) (sym (says took.event took.item) ∙ this) in
    rw (took.first, next) (sym took.next)

-- the next item does not match
pub stop-later : (r : Source) (before after : Placed) (breaks : List Break) (answer : Bool) → TakesItem r before after → Says r before after breaks answer → answer ≡ false → stop breaks (events r) before.position ≡ stop breaks (events r) after.position
unfolding stop
stop-later r before after breaks answer took says other =
    let next : list_any (matches (before.position + 1) took.event) breaks ≡ false = rw (← took.next) (sym (says took.event took.item) ∙ other) in
    rw (took.first, next, took.next) refl

least-from : (breaks : List Break) (q : ℕ) (es : List Event) → q ≤ stop_from breaks q es + 1
least-from breaks q [] = omega arith
least-from breaks q (e ∷ es) = cond_both (list_any (matches q e) breaks) q (stop_from breaks (q + 1) es) (λ (n : ℕ). q ≤ n + 1) (λ _. omega arith) (λ _. omega (arith, least-from breaks (q + 1) es))

least-next : (breaks : List Break) (q : ℕ) (e : Event) (es : List Event) → q ≤ stop_from breaks q (e ∷ es)
least-next breaks q e es = cond_both (list_any (matches q e) breaks) q (stop_from breaks (q + 1) es) (λ (n : ℕ). q ≤ n) (λ _. omega arith) (λ _. omega (arith, least-from breaks (q + 1) es))

-- it goes no further at the end alone
pub stop-still : (breaks : List Break) (es : List Event) (p : ℕ) → p ≤ length es → stop breaks es p ≡ p → p ≡ length es
unfolding stop
stop-still breaks es p within still = go (drop p es) refl
  where
    go : (later : List Event) → drop p es ≡ later → p ≡ length es
    go [] h = omega (arith, length-drop p es, ap length h, within)
    go (e ∷ more) h =
        let stays : stop_from breaks (p + 1) (e ∷ more) ≡ p = ap (λ (xs : List Event). stop_from breaks (p + 1) xs) (sym h) ∙ still in
        absurd (omega (arith, stays, least-next breaks (p + 1) e more))

pub stop-goes : (breaks : List Break) (es : List Event) (p : ℕ) → p ≤ length es → (stop breaks es p ≡ p → ⊥) → p < length es
stop-goes breaks es p within goes = go (ltb p (length es)) refl
  where
    go : (t : Bool) → ltb p (length es) ≡ t → p < length es
    go true e = ltb-true p (length es) e
    go false e = absurd (goes (stop-end breaks es p (omega (arith, ltb-false p (length es) e, within))))

-- ---- in the words of breakpoints

-- the item after those that are dropped
slice-behind : (es more : List Event) (e : Event) (p : ℕ) → drop p es ≡ e ∷ more → slice_get es p ≡ Some e
slice-behind [] more e zero h = cc
slice-behind [] more e (suc p) h = cc
slice-behind (x ∷ xs) more e zero h = let same : x ≡ e = cc in ap Some same
slice-behind (x ∷ xs) more e (suc p) h = slice-behind xs more e p h

event-behind : (es more : List Event) (e : Event) (p : ℕ) → drop p es ≡ e ∷ more → event_to es (p + 1) ≡ Some e
event-behind es more e p h = let next : p + 1 ≡ suc p = omega arith in ap (event_to es) next ∙ slice-behind es more e p h

-- after an item that does not match, a stop is one of the run from before it
stop-passes : (breaks : List Break) (es : List Event) (p q : ℕ) (e : Event) → event_to es (p + 1) ≡ Some e → list_any (matches (p + 1) e) breaks ≡ false → IsStop breaks es (p + 1) q → IsStop breaks es p q
stop-passes breaks es p q e item other x = record {
  later = omega (arith, x.later);
  within = x.within;
  here = x.here;
  first = λ r above below matched. by r above below matched (cases_lt (p + 1) r);
}
  where
    by : (r : ℕ) → p < r → r < q → IsMatched breaks es r → (p + 1 < r) ⊎ (r ≤ p + 1) → ⊥
    by r above below matched (inl after) = x.first r after below matched
    by r above below matched (inr before) =
        let same : r ≡ p + 1 = omega (arith, above, before) in
        let m : IsMatched breaks es (p + 1) = subst (λ (n : ℕ). IsMatched breaks es n) same matched in
        let one : m.0 ≡ e = cc (sym m.1 ∙ item) in
        true≢false (sym m.2 ∙ ap (λ (y : Event). list_any (matches (p + 1) y) breaks) one ∙ other)

stop-from : (breaks : List Break) (es later : List Event) (p : ℕ) → drop p es ≡ later → p < length es → IsStop breaks es p (stop_from breaks (p + 1) later)
stop-from breaks es [] p h more = absurd (omega (arith, length-drop p es, ap length h, more))
stop-from breaks es (e ∷ later) p h more =
    cond_both (list_any (matches (p + 1) e) breaks) (p + 1) (stop_from breaks (p + 1 + 1) later) (λ (q : ℕ). IsStop breaks es p q)
    (λ this. record { later = omega arith; within = omega (arith, more); here = inl (e, item, this); first = λ r above below matched. absurd (omega (arith, above, below)) })
    (λ other. behind later refl other (λ further. stop-from breaks es later (p + 1) next further))
  where
    item : event_to es (p + 1) ≡ Some e
    item = event-behind es later e p h

    next : drop (p + 1) es ≡ later
    next = sym (drop-drop 1 p es) ∙ ap (drop 1) h

    behind : (rest : List Event) → later ≡ rest → list_any (matches (p + 1) e) breaks ≡ false → (p + 1 < length es → IsStop breaks es (p + 1) (stop_from breaks (p + 1 + 1) later)) → IsStop breaks es p (stop_from breaks (p + 1 + 1) later)
    behind [] none other further =
        let last : p + 1 ≡ length es = omega (arith, length-drop p es, ap length h, ap length none) in
        let is : stop_from breaks (p + 1 + 1) later ≡ p + 1 = ap (λ (xs : List Event). stop_from breaks (p + 1 + 1) xs) none ∙ omega arith in
        rw is (record { later = omega arith; within = omega (arith, last); here = inr last; first = λ r above below matched. absurd (omega (arith, above, below)) })
    behind (x ∷ xs) some other further =
        let more : p + 1 < length es = omega (arith, length-drop p es, ap length h, ap length some) in
        stop-passes breaks es p _ e item other (further more)

-- the computed position is one where the run stops
pub stop-is : (breaks : List Break) (es : List Event) (p : ℕ) → p < length es → IsStop breaks es p (stop breaks es p)
unfolding stop
stop-is breaks es p more = stop-from breaks es (drop p es) p refl more

-- of two such positions neither comes first
not-before : (breaks : List Break) (es : List Event) (p q r : ℕ) → IsStop breaks es p q → IsStop breaks es p r → q < r → ⊥
not-before breaks es p q r x y before = elim x.here [
  | inl matched ↦ y.first q x.later before matched
  | inr last ↦ omega (arith, last, before, y.within)
]

-- and it is the only one
pub stop-only : (breaks : List Break) (es : List Event) (p q : ℕ) → p < length es → IsStop breaks es p q → q ≡ stop breaks es p
stop-only breaks es p q more x = by (cases_lt q (stop breaks es p)) (cases_lt (stop breaks es p) q)
  where
    by : (q < stop breaks es p) ⊎ (stop breaks es p ≤ q) → (stop breaks es p < q) ⊎ (q ≤ stop breaks es p) → q ≡ stop breaks es p
    by (inl below) other = absurd (not-before breaks es p q (stop breaks es p) x (stop-is breaks es p more) below)
    by (inr above) (inl below) = absurd (not-before breaks es p (stop breaks es p) q (stop-is breaks es p more) x below)
    by (inr above) (inr most) = omega (arith, above, most)

-- it goes no less far than it starts
pub stop-least : (breaks : List Break) (es : List Event) (p : ℕ) → p ≤ stop breaks es p
unfolding stop
stop-least breaks es p = omega (arith, least-from breaks (p + 1) (drop p es))

-- from a position on its way it stops at the same one
pub stop-between : (breaks : List Break) (es : List Event) (p q : ℕ) → p < length es → p ≤ q → q < stop breaks es p → stop breaks es q ≡ stop breaks es p
stop-between breaks es p q more le below =
    let x = stop-is breaks es p more in
    sym (stop-only breaks es q (stop breaks es p) (omega (arith, below, x.within)) (record { later = below; within = x.within; here = x.here; first = λ r above. x.first r (omega (arith, le, above)) }))
