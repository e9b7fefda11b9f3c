-- An item exists as soon as its last octet is there, and no sooner.
use Rattle.std.proofs.Common.{◌≡◌, ◌∙◌, ℕ, zero, suc, Some, ◌+◌, ◌-◌, ◌<◌, ◌≤◌, Bool, true, false, cond, List, [], ◌∷◌, ◌++◌, length, take, drop, get_or, refl, sym, ap, subst, arith, length-append, length-take, ltb, ltb-true, ltb-false, lt-ltb, eqb, eqb-true, nat_eq, append_assoc, drop_of_length-le}
use Rattle.std.proofs.lemmas.Bool.{cond_both}
use Rattle.std.specs.List.{common_prefix_len}
use Rattle.std.specs.Prelude.{slice_range, slice_get}
use Rattle.std.proofs.lemmas.Option.{slice_get_within, slice_get-get_or}
use Rattle.h2_spec.specs.declared.connection.Phase.{Phase}
use Rattle.h2_spec.specs.declared.connection.Phase.TheVariants as phase
use Rattle.h2_spec.specs.declared.frames.Head.{Head}
use Rattle.h2_spec.specs.Frames.Frame.{Item, Preface, BadPreface, WholeFrame, Oversize, Next, NoItem, Got, next, preface_item, preface, frame_item, head_of}
use Rattle.h2_spec.specs.Frames.Parse.{Front, Stop, One}
use Rattle.h2_spec.specs.State.{State}
use Rattle.h2_spec.specs.Trace.{Event, event_on, left_by, next_event, next_in, next_item}
use Rattle.h2_spec.proofs.ParseLaws as laws
use Rattle.h2_spec.proofs.TraceLaws.{event-stays, event-uses}
use Rattle.h2_frame.proofs.MissingLaws.{head_of-append}
use Rattle.h2_conn.specs.Connection.{going, is_ended}
use Rattle.h2_conn.specs.Runs.{Takes, TakesOne, Waits}
use Rattle.h2_conn.proofs.Items.{none-after}
use Rattle.h2_conn.proofs.Plays.{empty-stop, left-none}
use Rattle.h2_conn_view.proofs.Views.{take-next}
use Rattle.h2_conn.proofs.Runs.{left-ended, left-going, stop-none}

-- octets that agree with others, as far as these reach
common-early : (xs zs ys : List ℕ) → common_prefix_len nat_eq (xs ++ zs) ys ≤ length xs → common_prefix_len nat_eq xs ys ≡ common_prefix_len nat_eq (xs ++ zs) ys
common-early [] [] ys h = refl
common-early [] (z ∷ zs) [] h = refl
common-early [] (z ∷ zs) (y ∷ ys) h = omega (arith, h)
common-early (x ∷ xs) zs [] h = refl
common-early (x ∷ xs) zs (y ∷ ys) h = at (nat_eq x y) (λ g. common-early xs zs ys g) h
  where
    at : (t : Bool) → ((common_prefix_len nat_eq (xs ++ zs) ys ≤ length xs) → common_prefix_len nat_eq xs ys ≡ common_prefix_len nat_eq (xs ++ zs) ys)
        → cond t (1 + common_prefix_len nat_eq (xs ++ zs) ys) 0 ≤ suc (length xs) → cond t (1 + common_prefix_len nat_eq xs ys) 0 ≡ cond t (1 + common_prefix_len nat_eq (xs ++ zs) ys) 0
    at true more g = ap (λ n. 1 + n) (more (omega (arith, g)))
    at false more g = refl

no_got : (x : Item) (u : ℕ) → NoItem ≡ Got x u → ⊥
no_got x u h = cc

-- more octets bring an item only with octets of theirs
abbrev Later : List ℕ → Next → Type 0
Later b NoItem = Unit {0}
Later b (Got x used) = length b < used

preface-later : (b c : List ℕ) → preface_item (common_prefix_len nat_eq b preface) b ≡ NoItem → Later b (preface_item (common_prefix_len nat_eq (b ++ c) preface) (b ++ c))
preface-later b c none =
    cond_both (eqb more 24) (Got Preface 24) (cond (ltb more (length (b ++ c))) (Got BadPreface (more + 1)) NoItem) (Later b)
    (λ e. early-preface (eqb-true more 24 e))
    (λ e. cond_both (ltb more (length (b ++ c))) (Got BadPreface (more + 1)) NoItem (Later b) (λ g. early-bad e) (λ g. tt))
  where
    same : ℕ
    same = common_prefix_len nat_eq b preface

    more : ℕ
    more = common_prefix_len nat_eq (b ++ c) preface

    decided : (t : Bool) → ltb (length b) more ≡ t → (more ≡ 24) → 24 < suc (length b) → preface_item same b ≡ Got Preface 24
    decided t e m h = let equal : same ≡ more = common-early b c preface (omega (arith, m, h)) in rw (equal, m) refl

    early-preface : more ≡ 24 → length b < 24
    early-preface m = go (ltb (length b) 24) refl
      where
        go : (t : Bool) → ltb (length b) 24 ≡ t → length b < 24
        go true e = ltb-true (length b) 24 e
        go false e = let long = ltb-false (length b) 24 e in let content_received = decided (ltb (length b) more) refl m (omega (arith, long)) in absurd (no_got Preface 24 (sym none ∙ content_received))

    early-bad : eqb more 24 ≡ false → length b < more + 1
    early-bad e = go (ltb (length b) (more + 1)) refl
      where
        go : (t : Bool) → ltb (length b) (more + 1) ≡ t → length b < more + 1
        go true g = ltb-true (length b) (more + 1) g
        go false g =
            let long : more + 1 ≤ length b = ltb-false (length b) (more + 1) g in
            let equal : same ≡ more = common-early b c preface (omega (arith, long)) in
            let content_received : preface_item same b ≡ Got BadPreface (more + 1) = rw (equal, e, lt-ltb more (length b) (omega (arith, long))) refl in
            absurd (no_got BadPreface (more + 1) (sym none ∙ content_received))

-- a frame uses its head, and then its payload
abbrev UsesHead : Next → Type 0
UsesHead NoItem = Unit {0}
UsesHead (Got x used) = 9 ≤ used

frame-head : (limit : ℕ) (h : Head) (b : List ℕ) → UsesHead (frame_item limit h b)
frame-head limit h b =
    cond_both (ltb limit h.length) (Got (Oversize h) 9) _ UsesHead (λ e. omega arith)
    (λ e. cond_both (ltb (length b) (9 + h.length)) NoItem (Got (WholeFrame h (slice_range b 9 (9 + h.length))) (9 + h.length)) UsesHead (λ f. tt) (λ f. omega arith))

short-head : (b : List ℕ) (n : Next) → length b < 9 → UsesHead n → Later b n
short-head b NoItem h u = tt
short-head b (Got x used) h u = omega (arith, h, u)

-- the same head, where what is there has no item
frame-later : (limit : ℕ) (h : Head) (b more : List ℕ) → frame_item limit h b ≡ NoItem → Later b (frame_item limit h more)
frame-later limit h b more none =
    cond_both (ltb limit h.length) (Got (Oversize h) 9) _ (Later b)
    (λ e. absurd (no_got (Oversize h) 9 (sym none ∙ rw e refl)))
    (λ e. cond_both (ltb (length more) (9 + h.length)) NoItem (Got (WholeFrame h (slice_range more 9 (9 + h.length))) (9 + h.length)) (Later b) (λ f. tt) (λ f. longer e (ltb (length b) (9 + h.length)) refl))
  where
    longer : ltb limit h.length ≡ false → (t : Bool) → ltb (length b) (9 + h.length) ≡ t → length b < 9 + h.length
    longer e true g = ltb-true (length b) (9 + h.length) g
    longer e false g = absurd (no_got (WholeFrame h (slice_range b 9 (9 + h.length))) (9 + h.length) (sym none ∙ rw (e, g) refl))

next-later : (p : Bool) (limit : ℕ) (b c : List ℕ) → next p limit b ≡ NoItem → Later b (next p limit (b ++ c))
unfolding next
next-later true limit b c none = preface-later b c none
next-later false limit b c none =
    cond_both (ltb (length (b ++ c)) 9) NoItem (frame_item limit (head_of (b ++ c)) (b ++ c)) (Later b) (λ e. tt)
    (λ e. go (ltb (length b) 9) refl)
  where
    go : (t : Bool) → ltb (length b) 9 ≡ t → Later b (frame_item limit (head_of (b ++ c)) (b ++ c))
    go true e = short-head b (frame_item limit (head_of (b ++ c)) (b ++ c)) (ltb-true (length b) 9 e) (frame-head limit (head_of (b ++ c)) (b ++ c))
    go false e =
        let same = head_of-append b c (ltb-false (length b) 9 e) in
        let here : frame_item limit (head_of b) b ≡ NoItem = rw e at none in
        subst (λ (h : Head). Later b (frame_item limit h (b ++ c))) (sym same) (frame-later limit (head_of b) b (b ++ c) here)

in-later : (p : Phase) (limit : ℕ) (b c : List ℕ) → next_in p limit b ≡ NoItem → Later b (next_in p limit (b ++ c))
in-later phase.Preface limit b c none = next-later true limit b c none
in-later phase.Settings limit b c none = next-later false limit b c none
in-later phase.Running limit b c none = next-later false limit b c none
in-later (phase.Ended code) limit b c none = tt

event-later : (s : State) (b : List ℕ) (n : Next) (e : Event) (t : State) (used : ℕ) → Later b n → event_on s n ≡ One e t used → length b < used
event-later s b NoItem e t used h g = cc
event-later s b (Got x u) e t used h g = let same : u ≡ used = cc in rw (← same) h

-- an item uses more octets than were there without it
pub used-more : (s t : State) (b c : List ℕ) (e : Event) (used : ℕ) → next_item s b ≡ NoItem → next_event s (b ++ c) ≡ One e t used → length b < used
unfolding next_event next_item
used-more s t b c e used none comes = event-later s b (next_in s.core.phase s.core.own.frame (b ++ c)) e t used (in-later s.core.phase s.core.own.frame b c none) comes

-- the item that an octet completes uses all octets
pub used-all : (s t : State) (b : List ℕ) (octet : ℕ) (e : Event) (used : ℕ) → next_item s b ≡ NoItem → next_event s (b ++ octet ∷ []) ≡ One e t used → used ≡ length b + 1
used-all s t b octet e used none comes =
    let late : length b < used = used-more s t b (octet ∷ []) e used none comes in
    let most : laws.Uses (b ++ octet ∷ []) (One e t used) = subst (λ (n : Front State Event). laws.Uses (b ++ octet ∷ []) n) comes (event-uses s (b ++ octet ∷ [])) in
    omega (arith, late, most.1, length-append b (octet ∷ []))

-- ---- at most one item

take-octet : (i : ℕ) (q : List ℕ) (octet : ℕ) → slice_get q i ≡ Some octet → take i q ++ octet ∷ drop (suc i) q ≡ q
take-octet i [] octet h = cc
take-octet zero (x ∷ xs) octet h = let same : x ≡ octet = cc in rw same refl
take-octet (suc i) (x ∷ xs) octet h = ap (λ ys. x ∷ ys) (take-octet i xs octet h)

pub held-more : (octets q b : List ℕ) (i octet : ℕ) → b ≡ octets ++ take i q → slice_get q i ≡ Some octet → b ++ octet ∷ [] ≡ octets ++ take (i + 1) q
held-more octets q b i octet held at =
    let next : i + 1 ≡ suc i = omega arith in
    rw (next, take-next i q octet at, held) (append_assoc octets (take i q) (octet ∷ []))

pub waits-ended : (s : State) (octets q out : List ℕ) → is_ended s.core.phase ≡ true
    → Waits (going s (left_by s.core.phase octets)) q out (going s (left_by s.core.phase octets)) out (length q)
waits-ended s octets q out h = record {
  none = none-after s (left_by s.core.phase octets ++ q) h;
  used_is = refl;
  after = ap (going s) (left-ended s.core.phase octets h ∙ sym (left-ended s.core.phase (left_by s.core.phase octets ++ q) h));
  sent = refl;
}

item-event : (s : State) (b : List ℕ) → next_item s b ≡ NoItem → next_event s b ≡ Stop
unfolding next_event
item-event s b h = ap (event_on s) h

pub waits-all : (s : State) (octets q out : List ℕ) → is_ended s.core.phase ≡ false → next_item s (octets ++ q) ≡ NoItem
    → Waits (going s (left_by s.core.phase octets)) q out (going s (left_by s.core.phase (octets ++ q))) out (length q)
waits-all s octets q out h none = rw (left-going s.core.phase octets h) (record {
  none = item-event s (octets ++ q) none;
  used_is = refl;
  after = refl;
  sent = refl;
})

pub octet-taken : (s t : State) (octets q b c out out' : List ℕ) (i octet : ℕ) → is_ended s.core.phase ≡ false → b ≡ octets ++ take i q → slice_get q i ≡ Some octet
    → next_item s b ≡ NoItem → Takes s (b ++ octet ∷ []) out t c out'
    → TakesOne (going s (left_by s.core.phase octets)) q out (going t (left_by t.core.phase c)) out' (i + 1) × (c ≡ [])
octet-taken s t octets q b c out out' i octet h held at none x =
    let used : x.used ≡ length b + 1 = used-all s t b octet x.event x.used none x.comes in
    let inside : i < length q = slice_get_within q i octet at in
    let long : length b ≡ length octets + i = omega (arith, ap length held, length-append octets (take i q), length-take i q, inside) in
    let empty : c ≡ [] = x.rest ∙ drop_of_length-le (b ++ octet ∷ []) (omega (arith, used, length-append b (octet ∷ []))) in
    let all : (b ++ octet ∷ []) ++ drop (suc i) q ≡ octets ++ q =
    append_assoc b (octet ∷ []) (drop (suc i) q) ∙ ap (λ (y : List ℕ). y ++ octet ∷ drop (suc i) q) held ∙ append_assoc octets (take i q) (octet ∷ drop (suc i) q)
    ∙ ap (λ (y : List ℕ). octets ++ y) (take-octet i q octet at) in
    let stays : next_event s ((b ++ octet ∷ []) ++ drop (suc i) q) ≡ One x.event t x.used =
    subst (λ (n : Front State Event). laws.Stays n (next_event s ((b ++ octet ∷ []) ++ drop (suc i) q))) x.comes (event-stays s (b ++ octet ∷ []) (drop (suc i) q)) in (
      rw (left-going s.core.phase octets h) (record {
        event = x.event;
        next = t;
        taken = x.used;
        comes = subst (λ (y : List ℕ). next_event s y ≡ One x.event t x.used) all stays;
        used_is = omega (arith, used, long);
        after = ap (going t) (ap (left_by t.core.phase) empty ∙ left-none t.core.phase);
        sent = x.sent;
        short = x.short;
      }),
      empty,
    )

-- the item that some octets complete, and fewer of them don't
pub octets-taken : (s t : State) (octets q c out out' : List ℕ) (n : ℕ) → is_ended s.core.phase ≡ false → 0 < n → n ≤ length q
    → next_item s (octets ++ take (n - 1) q) ≡ NoItem → Takes s (octets ++ take n q) out t c out'
    → TakesOne (going s (left_by s.core.phase octets)) q out (going t (left_by t.core.phase c)) out' n × (c ≡ [])
octets-taken s t octets q c out out' n h some within none x =
    let i : ℕ = n - 1 in
    let next : i + 1 ≡ n = omega (arith, some) in
    let at : slice_get q i ≡ Some (get_or q i 0) = slice_get-get_or q i 0 (omega (arith, some, within)) in
    let all : (octets ++ take i q) ++ get_or q i 0 ∷ [] ≡ octets ++ take n q = held-more octets q (octets ++ take i q) i (get_or q i 0) refl at ∙ ap (λ (m : ℕ). octets ++ take m q) next in
    subst (λ (m : ℕ). TakesOne (going s (left_by s.core.phase octets)) q out (going t (left_by t.core.phase c)) out' m × (c ≡ [])) next
    (octet-taken s t octets q (octets ++ take i q) c out out' i (get_or q i 0) h refl at none (subst (λ (b : List ℕ). Takes s b out t c out') (sym all) x))

pub octet-rest : (t : State) (c : List ℕ) → c ≡ [] → next_item t c ≡ NoItem
octet-rest t c e = rw e (stop-none t [] (empty-stop t))
