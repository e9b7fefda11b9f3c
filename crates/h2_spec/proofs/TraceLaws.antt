-- The items of a connection's octets: how many octets each takes, and that more octets after it change nothing.
use Rattle.std.proofs.Common.{◌≡◌, ℕ, suc, ◌+◌, ◌-◌, ◌<◌, ◌≤◌, ◌⊎◌, inl, inr, Bool, true, false, cond, List, [], ◌∷◌, ◌++◌, length, drop, get_or, refl, sym, ap, subst, arith, length-drop, length-append, ltb, ltb-true, ltb-false, le-ltb, lt-ltb, eqb, eqb-true, nat_eq}
use Rattle.std.proofs.lemmas.Bool.{cond_both}
use Rattle.std.proofs.lemmas.List.{take-append-le, drop-append-le}
use Rattle.std.proofs.lemmas.List.Sums.{common_prefix_len-le}
use Rattle.std.proofs.Math.ListN.{get_or-append}
use Rattle.std.specs.List.{common_prefix_len}
use Rattle.std.specs.Prelude.{slice_range}
use Rattle.h2_spec.specs.Frames.Parse.{Parsed, parse_all}
use Rattle.h2_spec.specs.declared.errors.ErrorCode.{ErrorCode}
use Rattle.h2_spec.specs.declared.frames.Head.{Head}
use Rattle.h2_spec.specs.Frames.Frame.{Next, NoItem, Got, next, Preface, BadPreface, WholeFrame, Oversize, head_of, frame_item, preface_item, preface}
use Rattle.h2_spec.specs.State.{State}
use Rattle.h2_spec.specs.declared.connection.Phase.{Phase}
use Rattle.h2_spec.specs.declared.connection.Phase.TheVariants as phase
use Rattle.h2_spec.specs.Trace.{Event, Run, left_by, IsKept, IsWithin, next_event, event_on, next_in, trace, carried_on}
use Rattle.h2_spec.proofs.ParseLaws as laws

-- ---- the preface

common-append : (xs zs ys : List ℕ) → ((common_prefix_len nat_eq xs ys < length xs) ⊎ (common_prefix_len nat_eq xs ys ≡ length ys)) → common_prefix_len nat_eq (xs ++ zs) ys ≡ common_prefix_len nat_eq xs ys
common-append [] [] ys h = refl
common-append [] (z ∷ zs) [] h = refl
common-append [] (z ∷ zs) (y ∷ ys) h = absurd (omega arith)
common-append (x ∷ xs) zs [] h = refl
common-append (x ∷ xs) zs (y ∷ ys) h = at (nat_eq x y) (λ g. common-append xs zs ys g) h
  where
    at : (t : Bool) → (((common_prefix_len nat_eq xs ys < length xs) ⊎ (common_prefix_len nat_eq xs ys ≡ length ys)) → common_prefix_len nat_eq (xs ++ zs) ys ≡ common_prefix_len nat_eq xs ys) →
        ((cond t (1 + common_prefix_len nat_eq xs ys) 0 < suc (length xs)) ⊎ (cond t (1 + common_prefix_len nat_eq xs ys) 0 ≡ suc (length ys))) →
        cond t (1 + common_prefix_len nat_eq (xs ++ zs) ys) 0 ≡ cond t (1 + common_prefix_len nat_eq xs ys) 0
    at true more (inl g) = ap (λ n. 1 + n) (more (inl (omega arith)))
    at true more (inr g) = ap (λ n. 1 + n) (more (inr (omega arith)))
    at false more g = refl

preface-uses : (same : ℕ) (b : List ℕ) → same ≤ length b → IsWithin b (preface_item same b)
preface-uses same b h =
    cond_both (eqb same 24) (Got Preface 24) (cond (ltb same (length b)) (Got BadPreface (same + 1)) NoItem) (IsWithin b)
    (λ e. (omega arith, omega (arith, eqb-true same 24 e)))
    (λ e. cond_both (ltb same (length b)) (Got BadPreface (same + 1)) NoItem (IsWithin b) (λ g. (omega arith, omega (arith, ltb-true same (length b) g))) (λ g. tt))

preface-stays : (b c : List ℕ) → IsKept (preface_item (common_prefix_len nat_eq b preface) b) (preface_item (common_prefix_len nat_eq (b ++ c) preface) (b ++ c))
unfolding preface
preface-stays b c = whole (eqb same 24) refl
  where
    same : ℕ
    same = common_prefix_len nat_eq b preface

    more : ℕ
    more = common_prefix_len nat_eq (b ++ c) preface

    bad : (t : Bool) → eqb same 24 ≡ false → ltb same (length b) ≡ t → IsKept (cond t (Got BadPreface (same + 1)) NoItem) (preface_item more (b ++ c))
    bad false g e = tt
    bad true g e =
        let less = ltb-true same (length b) e in
        let equal : more ≡ same = common-append b c preface (inl less) in
        let longer : ltb same (length (b ++ c)) ≡ true = lt-ltb same (length (b ++ c)) (omega (arith, less, length-append b c)) in
        rw (equal, g, longer) refl

    whole : (t : Bool) → eqb same 24 ≡ t → IsKept (cond t (Got Preface 24) (cond (ltb same (length b)) (Got BadPreface (same + 1)) NoItem)) (preface_item more (b ++ c))
    whole true e =
        let equal : more ≡ same = common-append b c preface (inr (eqb-true same 24 e)) in
        rw (equal, e) refl
    whole false e = bad (ltb same (length b)) e refl

-- ---- a frame

frame-uses : (limit : ℕ) (h : Head) (b : List ℕ) → 9 ≤ length b → IsWithin b (frame_item limit h b)
frame-uses limit h b enough =
    cond_both (ltb limit h.length) (Got (Oversize h) 9) _ (IsWithin b)
    (λ e. (omega arith, enough))
    (λ e. cond_both (ltb (length b) (9 + h.length)) NoItem _ (IsWithin b) (λ g. tt) (λ g. (omega arith, omega (arith, ltb-false (length b) (9 + h.length) g))))

head-append : (b c : List ℕ) → 9 ≤ length b → head_of (b ++ c) ≡ head_of b
unfolding head_of
head-append b c h =
    let same : (i : ℕ) → i < 9 → get_or (b ++ c) i 0 ≡ get_or b i 0 = λ i g. get_or-append b c 0 i (omega arith) in
    rw (same 0 (omega arith), same 1 (omega arith), same 2 (omega arith), same 3 (omega arith), same 4 (omega arith), same 5 (omega arith), same 6 (omega arith), same 7 (omega arith), same 8 (omega arith)) refl

range-append : (b c : List ℕ) (n : ℕ) → 9 + n ≤ length b → slice_range (b ++ c) 9 (9 + n) ≡ slice_range b 9 (9 + n)
range-append b c n h =
    let front : 9 ≤ length b = omega arith in
    let within : 9 + n - 9 ≤ length (drop 9 b) = omega (arith, h, length-drop 9 b) in
    rw (drop-append-le 9 b c front, take-append-le (9 + n - 9) (drop 9 b) c within) refl

frame-stays : (limit : ℕ) (h : Head) (b c : List ℕ) → IsKept (frame_item limit h b) (frame_item limit h (b ++ c))
frame-stays limit h b c = large (ltb limit h.length) refl
  where
    whole : (t : Bool) → ltb limit h.length ≡ false → ltb (length b) (9 + h.length) ≡ t → IsKept (cond t NoItem (Got (WholeFrame h (slice_range b 9 (9 + h.length))) (9 + h.length))) (frame_item limit h (b ++ c))
    whole true g e = tt
    whole false g e =
        let enough = ltb-false (length b) (9 + h.length) e in
        let more : ltb (length (b ++ c)) (9 + h.length) ≡ false = le-ltb (length (b ++ c)) (9 + h.length) (omega (arith, enough, length-append b c)) in
        rw (g, more, range-append b c h.length enough) refl

    large : (t : Bool) → ltb limit h.length ≡ t → IsKept (cond t (Got (Oversize h) 9) (cond (ltb (length b) (9 + h.length)) NoItem (Got (WholeFrame h (slice_range b 9 (9 + h.length))) (9 + h.length)))) (frame_item limit h (b ++ c))
    large true e = rw e refl
    large false e = whole (ltb (length b) (9 + h.length)) e refl

-- ---- an item

pub next-uses : (p : Bool) (limit : ℕ) (b : List ℕ) → IsWithin b (next p limit b)
unfolding next
next-uses true limit b = preface-uses (common_prefix_len nat_eq b preface) b (common_prefix_len-le nat_eq b preface).0
next-uses false limit b =
    cond_both (ltb (length b) 9) NoItem (frame_item limit (head_of b) b) (IsWithin b) (λ e. tt) (λ e. frame-uses limit (head_of b) b (ltb-false (length b) 9 e))

pub next-stays : (p : Bool) (limit : ℕ) (b c : List ℕ) → IsKept (next p limit b) (next p limit (b ++ c))
unfolding next
next-stays true limit b c = preface-stays b c
next-stays false limit b c = at (ltb (length b) 9) refl
  where
    at : (t : Bool) → ltb (length b) 9 ≡ t → IsKept (cond t NoItem (frame_item limit (head_of b) b)) (cond (ltb (length (b ++ c)) 9) NoItem (frame_item limit (head_of (b ++ c)) (b ++ c)))
    at true e = tt
    at false e =
        let enough = ltb-false (length b) 9 e in
        let more : ltb (length (b ++ c)) 9 ≡ false = le-ltb (length (b ++ c)) 9 (omega (arith, enough, length-append b c)) in
        rw more (subst (λ h. IsKept (frame_item limit (head_of b) b) (frame_item limit h (b ++ c))) (sym (head-append b c enough)) (frame-stays limit (head_of b) b c))

next_in-uses : (phase : Phase) (limit : ℕ) (b : List ℕ) → IsWithin b (next_in phase limit b)
next_in-uses phase.Preface limit b = next-uses true limit b
next_in-uses phase.Settings limit b = next-uses false limit b
next_in-uses phase.Running limit b = next-uses false limit b
next_in-uses (phase.Ended code) limit b = tt

next_in-stays : (phase : Phase) (limit : ℕ) (b c : List ℕ) → IsKept (next_in phase limit b) (next_in phase limit (b ++ c))
next_in-stays phase.Preface limit b c = next-stays true limit b c
next_in-stays phase.Settings limit b c = next-stays false limit b c
next_in-stays phase.Running limit b c = next-stays false limit b c
next_in-stays (phase.Ended code) limit b c = tt

-- ---- an event

pub event-uses : (s : State) (b : List ℕ) → laws.Uses b (next_event s b)
unfolding next_event
event-uses s b = at (next_in s.core.phase s.core.own.frame b) (next_in-uses s.core.phase s.core.own.frame b)
  where
    at : (x : Next) → IsWithin b x → laws.Uses b (event_on s x)
    at NoItem u = tt
    at (Got item used) u = u

pub event-stays : (s : State) (b c : List ℕ) → laws.Stays (next_event s b) (next_event s (b ++ c))
unfolding next_event
event-stays s b c = at (next_in s.core.phase s.core.own.frame b) (next_in s.core.phase s.core.own.frame (b ++ c)) (next_in-stays s.core.phase s.core.own.frame b c)
  where
    at : (x y : Next) → IsKept x y → laws.Stays (event_on s x) (event_on s y)
    at NoItem y e = tt
    at (Got item used) y e = ap (event_on s) e

-- octets that come in two pieces make the run of their sum
pub events-append : (s : State) (b c : List ℕ) → parse_all next_event s (b ++ c) ≡ laws.joined next_event (parse_all next_event s b) c
events-append s b c = laws.parse_all-append next_event event-uses event-stays (length b) s b c (omega arith)

-- ---- whole runs

-- after the end there are no items
ended-run : (s : State) (b : List ℕ) (code : ErrorCode) → s.core.phase ≡ phase.Ended code → parse_all next_event s b ≡ record { elements = []; state = s; rest = b }
unfolding next_event
ended-run s b code e = rw (laws.parse_all-step next_event event-uses s b, e) refl

-- the run of these elements after others
abbrev run_of : List Event → Parsed State Event → Run
run_of before t = record { events = before ++ t.elements; state = t.state; rest = left_by t.state.core.phase t.rest }

-- a run over octets in two pieces is the run over their sum
pub trace-append : (s : State) (b c : List ℕ) → trace s (b ++ c) ≡ carried_on (trace s b) c
unfolding trace carried_on
trace-append s b c = rw (events-append s b c) (at t.state.core.phase refl)
  where
    t : Parsed State Event
    t = parse_all next_event s b

    at : (p : Phase) → t.state.core.phase ≡ p → run_of t.elements (parse_all next_event t.state (t.rest ++ c)) ≡ run_of t.elements (parse_all next_event t.state (left_by p t.rest ++ c))
    at phase.Preface e = refl
    at phase.Settings e = refl
    at phase.Running e = refl
    at (phase.Ended code) e = rw (ended-run t.state (t.rest ++ c) code e, ended-run t.state ([] ++ c) code e, e) refl
