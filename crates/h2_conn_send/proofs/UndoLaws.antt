-- A move of the windows is undone by the opposite one.
use Rattle.std.proofs.Common.{◌≡◌, ◌≤◌, ℕ, Bool, true, false, cond, List, [], ◌∷◌, map, refl, ap, ◌∙◌, sym, subst, arith, true≢false, ℤ, pos, negsuc, ◌+ℤ◌, ◌≤ℤ◌}
use Rattle.std.specs.List.{AllByRecursion}
use Rattle.h2_spec.specs.Requests.Answer.{Entry}
use Rattle.h2_spec.specs.Window.{is_above_max}
use Rattle.h2_spec.specs.declared.streams.Stream.{Stream}
use Rattle.h2_spec.specs.Change.{follows_initial_window, moved_by, overflows, overflows_one, received, received_one, shifted, shifted_one, with_recv, with_send}
use Rattle.h2_spec.specs.Stream.{is_live}
use Rattle.h2_streams.specs.Shift.{CanReceive, CanShift}
use Rattle.h2_conn_rules.specs.Sound.{AreSound, InForce, IsSoundStream}

there-and-back : (from to : ℕ) (w : ℤ) → ((w +ℤ moved_by from to) +ℤ moved_by to from) ≡ w
there-and-back from to w = grind arith

one-back : (from to : ℕ) (st : Stream) → shifted_one (moved_by to from) (shifted_one (moved_by from to) st) ≡ st
one-back from to st = at (follows_initial_window st.kind) refl
  where
    at : (t : Bool) → follows_initial_window st.kind ≡ t → shifted_one (moved_by to from) (cond t (with_send st (st.numbers.send +ℤ moved_by from to)) st) ≡ st
    at true e = rw e (ap (with_send st) (there-and-back from to st.numbers.send))
    at false e = rw e refl

pub shifted-back : (from to : ℕ) (ss : List Stream) → shifted (moved_by to from) (shifted (moved_by from to) ss) ≡ ss
unfolding shifted
shifted-back from to [] = refl
shifted-back from to (x ∷ xs) = ap (λ y. y ∷ map (shifted_one (moved_by to from)) (map (shifted_one (moved_by from to)) xs)) (one-back from to x) ∙ ap (λ ys. x ∷ ys) (shifted-back from to xs)

-- ---- the opposite move can be made

not-above : (w : ℤ) → w ≤ℤ pos 2147483647 → is_above_max w ≡ false
not-above w h = grind (arith, h)

one-fits : (from to : ℕ) (st : Stream) → st.numbers.send ≤ℤ pos 2147483647 → overflows_one (moved_by to from) (shifted_one (moved_by from to) st) ≡ false
one-fits from to st h = at (follows_initial_window st.kind) refl
  where
    at : (t : Bool) → follows_initial_window st.kind ≡ t → overflows_one (moved_by to from) (cond t (with_send st (st.numbers.send +ℤ moved_by from to)) st) ≡ false
    at true e = rw e (ap is_above_max (there-and-back from to st.numbers.send) ∙ not-above st.numbers.send h)
    at false e = rw e refl

-- no window overflows on the way back
pub overflow-back : (book : List Entry) (f : InForce) (to : ℕ) (ss : List Stream) → AreSound book f ss → overflows (moved_by to f.window) (shifted (moved_by f.window to) ss) ≡ false
unfolding overflows shifted
overflow-back book f to [] h = refl
overflow-back book f to (x ∷ xs) h =
    ap (λ t. cond t true (overflows (moved_by to f.window) (map (shifted_one (moved_by f.window to)) xs))) (one-fits f.window to x h.0.0.1) ∙ overflow-back book f to xs h.1

-- nor does one become less than the least
low : (from : ℕ) (w : ℤ) → pos from ≤ℤ (w +ℤ pos 2147483647) → negsuc 2147483647 ≤ℤ w
low from w h = grind (arith, h)

one-can : (from to : ℕ) (st : Stream) → (follows_initial_window st.kind ≡ true → pos from ≤ℤ (st.numbers.send +ℤ pos 2147483647)) → CanShift (moved_by to from) (shifted_one (moved_by from to) st)
one-can from to st h = at (follows_initial_window st.kind) refl
  where
    at : (t : Bool) → follows_initial_window st.kind ≡ t → CanShift (moved_by to from) (cond t (with_send st (st.numbers.send +ℤ moved_by from to)) st)
    at true e = λ f. subst (λ (w : ℤ). negsuc 2147483647 ≤ℤ w) (sym (there-and-back from to st.numbers.send)) (low from st.numbers.send (h e))
    at false e = λ f. absurd (true≢false (sym f ∙ e))

pub can-shift-back : (book : List Entry) (f : InForce) (to : ℕ) (ss : List Stream) → AreSound book f ss → AllByRecursion (CanShift (moved_by to f.window)) (shifted (moved_by f.window to) ss)
unfolding shifted
can-shift-back book f to [] h = tt
can-shift-back book f to (x ∷ xs) h = (one-can f.window to x h.0.0.2, can-shift-back book f to xs h.1)

-- ---- the receive windows

one-received-back : (from to : ℕ) (st : Stream) → received_one (moved_by to from) (received_one (moved_by from to) st) ≡ st
one-received-back from to st = at (is_live st.kind) refl
  where
    at : (t : Bool) → is_live st.kind ≡ t → received_one (moved_by to from) (cond t (with_recv st (st.numbers.recv +ℤ moved_by from to)) st) ≡ st
    at true e = rw e (ap (with_recv st) (there-and-back from to st.numbers.recv))
    at false e = rw e refl

pub received-back : (from to : ℕ) (ss : List Stream) → received (moved_by to from) (received (moved_by from to) ss) ≡ ss
unfolding received
received-back from to [] = refl
received-back from to (x ∷ xs) = ap (λ y. y ∷ map (received_one (moved_by to from)) (map (received_one (moved_by from to)) xs)) (one-received-back from to x) ∙ ap (λ ys. x ∷ ys) (received-back from to xs)

-- where a receive window was, it was within what a window can be
was-least : (window owed : ℕ) (recv : ℤ) → owed ≤ 2147483647 → (recv +ℤ pos owed) ≡ pos window → negsuc 2147483647 ≤ℤ recv
was-least window owed recv few e = grind (arith, few, e)

was-most : (window owed : ℕ) (recv : ℤ) → window ≤ 2147483647 → (recv +ℤ pos owed) ≡ pos window → recv ≤ℤ pos 2147483647
was-most window owed recv most e = grind (arith, most, e)

one-can-receive : (f : InForce) (to : ℕ) (st : Stream) → f.own.window ≤ 2147483647 → IsSoundStream f st → CanReceive (moved_by to f.own.window) (received_one (moved_by f.own.window to) st)
one-can-receive f to st most h = at (is_live st.kind) refl
  where
    from : ℕ
    from = f.own.window

    at : (t : Bool) → is_live st.kind ≡ t → CanReceive (moved_by to from) (cond t (with_recv st (st.numbers.recv +ℤ moved_by from to)) st)
    at true e = λ live.
        let n = st.numbers in
        let up = h.0 e in
        let back = sym (there-and-back from to n.recv) in
        (subst (λ (w : ℤ). negsuc 2147483647 ≤ℤ w) back (was-least from n.owed n.recv up.1 up.0), subst (λ (w : ℤ). w ≤ℤ pos 2147483647) back (was-most from n.owed n.recv most up.0))
    at false e = λ live. absurd (true≢false (sym live ∙ e))

pub can-receive-back : (book : List Entry) (f : InForce) (to : ℕ) (ss : List Stream) → f.own.window ≤ 2147483647 → AreSound book f ss →
    AllByRecursion (CanReceive (moved_by to f.own.window)) (received (moved_by f.own.window to) ss)
unfolding received
can-receive-back book f to [] most h = tt
can-receive-back book f to (x ∷ xs) most h = (one-can-receive f to x most h.0.0, can-receive-back book f to xs most h.1)
