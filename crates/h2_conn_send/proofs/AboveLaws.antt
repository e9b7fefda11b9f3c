-- How sending in the order of the identifiers goes forward by one stream that can send.
use Rattle.std.proofs.Common.{◌≡◌, ℕ, ◌-◌, ◌%◌, ◌<◌, ◌≤◌, Bool, true, false, cond, List, [], ◌∷◌, ◌++◌, length, take, drop, refl, sym, ap, subst, ◌∙◌, arith, eqb, eqb-true, Option, Some, None, min, max, ℤ, pos, negsuc, ◌≤ℤ◌, int_lt}
use Rattle.std.proofs.lemmas.Bool.{false≢true}
use Rattle.std.proofs.lemmas.Bool.Decides.{nat_tests}
use Rattle.std.specs.Prelude.{Result, Ok, Err, IsOk, OnOk, find, nat_lt, ◌&&◌, ◌||◌, not, ◌==◌}
use Rattle.h2_spec.specs.declared.streams.Stream.{Stream}
use Rattle.h2_spec.specs.declared.streams.StreamState.{StreamState}
use Rattle.h2_spec.specs.declared.streams.StreamState.TheVariants.{Idle, Skipped, BothOpen, HalfRemote, HalfLocal, Ended, PeerReset, WeReset}
use Rattle.h2_spec.specs.Requests.StreamEnds.{server_ended_as, with_body_remaining}
use Rattle.h2_spec.specs.Requests.Answer.{Entry, picked}
use Rattle.h2_spec.specs.Window.{sendable}
use Rattle.h2_streams.specs.Put.{CanPut, is_closed}
use Rattle.h2_streams.specs.Kept.{is_ready, ready_above, next_ready}
use Rattle.h2_spec.specs.Stream.{AreRising, Records, put, record_of, stream_at, octets_waiting, octets_left, id_of, is_live}
use Rattle.h2_spec.specs.SendPending.{allowance, allowance_frames, data_frames, after_sending, sent_frames, all_after_sending, window_left, with_paid}
use Rattle.std.specs.List.{AllByRecursion}
use Rattle.std.specs.Option.{option_map}
use Rattle.h2_conn_send.specs.Above.{IsWaiting, allowance_above, frames_above, streams_above, left_above}

-- ---- a stream that sends nothing

pub no_frames : (book : List Entry) (size : ℕ) (st : Stream) → allowance_frames book size 0 st ≡ []
unfolding allowance_frames
no_frames book size st = refl

-- the frames of a share of its answer's body
pub body_frames : (book : List Entry) (size n : ℕ) (st : Stream) (body : List ℕ) → body ≡ (picked book st.pick).body →
    data_frames st.id (octets_waiting st == n) size (take n (drop (length body - octets_waiting st) body)) ≡ allowance_frames book size n st
unfolding allowance_frames
body_frames book size n st body e = ap (λ b. data_frames st.id (octets_waiting st == n) size (take n (drop (length b - octets_waiting st) b))) e

pub same_stream : (st : Stream) → after_sending 0 st ≡ st
unfolding after_sending
same_stream st = refl

no_allowance : (window : ℕ) (st : Stream) → octets_waiting st ≡ 0 → allowance window st ≡ 0
unfolding allowance
no_allowance window st e = rw e (omega arith)

shut_allowance : (window : ℕ) (st : Stream) → sendable st.numbers.send ≡ 0 → allowance window st ≡ 0
unfolding allowance
shut_allowance window st e = rw e (omega arith)

pub less_nothing : (n : ℕ) → n - 0 ≡ n
less_nothing n = omega arith

not_above : (z : ℤ) → int_lt (pos 0) z ≡ false → z ≤ℤ pos 0
not_above z h = grind (arith, h)

shut_at : (z : ℤ) → z ≤ℤ pos 0 → sendable z ≡ 0
shut_at (pos n) h = grind (arith, h)
shut_at (negsuc n) h = refl

-- a stream that cannot send has no share
pub not_ready : (window : ℕ) (st : Stream) → is_ready st ≡ false → allowance window st ≡ 0
not_ready window st h = by (nat_lt 0 (octets_waiting st)) refl h
  where
    by : (t : Bool) → nat_lt 0 (octets_waiting st) ≡ t → (t && int_lt (pos 0) st.numbers.send) ≡ false → allowance window st ≡ 0
    by false e k = no_allowance window st (grind (arith, nat_tests, e))
    by true e k = shut_allowance window st (shut_at st.numbers.send (not_above st.numbers.send k))

idle : (after window : ℕ) (st : Stream) → ready_above after st ≡ false → allowance_above after window st ≡ 0
idle after window st e = at (nat_lt after st.id) e
  where
    at : (t : Bool) → (t && is_ready st) ≡ false → cond t (allowance window st) 0 ≡ 0
    at false e = refl
    at true e = not_ready window st e

-- ---- the order of the records

pub some_same : {A : Type 0} (x y : A) → Some x ≡ Some y → x ≡ y
some_same x y e = cc

pub none_some : {A : Type 0} (x : A) → None ≡ Some x → ⊥
none_some x e = cc

pub found_above : (p : Stream → Bool) (low last : ℕ) (ss : List Stream) (st : Stream) → AreRising low last ss → find p ss ≡ Some st → low < st.id
found_above p low last [] st r e = absurd (none_some st e)
found_above p low last (x ∷ xs) st r e = at (λ g. found_above p x.id last xs st r.3 g) (p x) e
  where
    at : (find p xs ≡ Some st → x.id < st.id) → (t : Bool) → cond t (Some x) (find p xs) ≡ Some st → low < st.id
    at more true e = let P : Stream → Type 0 = λ y. low < y.id in subst P (some_same x st e) r.0
    at more false e = let h = more e in let l = r.0 in omega arith

-- above one identifier and above another, both below all records, the same is sent
same_frames : (book : List Entry) (size : ℕ) (a b low last window : ℕ) (ss : List Stream) → AreRising low last ss → a ≤ low → b ≤ low → frames_above book size a window ss ≡ frames_above book size b window ss
same_frames book size a b low last window [] r h g = refl
same_frames book size a b low last window (x ∷ xs) r h g =
    let over : nat_lt a x.id ≡ true = let l = r.0 in grind (arith, nat_tests, l, h) in
    let above : nat_lt b x.id ≡ true = let l = r.0 in grind (arith, nat_tests, l, g) in
    let l = r.0 in
    rw (over, above) (ap (λ fs. allowance_frames book size (allowance window x) x ++ fs) (same_frames book size a b x.id last (window - allowance window x) xs r.3 (omega arith) (omega arith)))

same_streams : (a b low last window : ℕ) (ss : List Stream) → AreRising low last ss → a ≤ low → b ≤ low → streams_above a window ss ≡ streams_above b window ss
same_streams a b low last window [] r h g = refl
same_streams a b low last window (x ∷ xs) r h g =
    let over : nat_lt a x.id ≡ true = let l = r.0 in grind (arith, nat_tests, l, h) in
    let above : nat_lt b x.id ≡ true = let l = r.0 in grind (arith, nat_tests, l, g) in
    let l = r.0 in
    rw (over, above) (ap (λ sts. after_sending (allowance window x) x ∷ sts) (same_streams a b x.id last (window - allowance window x) xs r.3 (omega arith) (omega arith)))

same_left : (a b low last window : ℕ) (ss : List Stream) → AreRising low last ss → a ≤ low → b ≤ low → left_above a window ss ≡ left_above b window ss
same_left a b low last window [] r h g = refl
same_left a b low last window (x ∷ xs) r h g =
    let over : nat_lt a x.id ≡ true = let l = r.0 in grind (arith, nat_tests, l, h) in
    let above : nat_lt b x.id ≡ true = let l = r.0 in grind (arith, nat_tests, l, g) in
    let l = r.0 in
    rw (over, above) (same_left a b x.id last (window - allowance window x) xs r.3 (omega arith) (omega arith))

-- ---- from the beginning, all send

pub all_frames : (book : List Entry) (size low last window : ℕ) (ss : List Stream) → AreRising low last ss → frames_above book size low window ss ≡ sent_frames book size window ss
unfolding sent_frames
all_frames book size low last window [] r = refl
all_frames book size low last window (x ∷ xs) r =
    let over : nat_lt low x.id ≡ true = let l = r.0 in grind (arith, nat_tests, l) in
    let l = r.0 in
    rw over (ap (λ fs. allowance_frames book size (allowance window x) x ++ fs)
    (same_frames book size low x.id x.id last (window - allowance window x) xs r.3 (omega arith) (omega arith) ∙ all_frames book size x.id last (window - allowance window x) xs r.3))

pub all_streams : (low last window : ℕ) (ss : List Stream) → AreRising low last ss → streams_above low window ss ≡ all_after_sending window ss
unfolding all_after_sending
all_streams low last window [] r = refl
all_streams low last window (x ∷ xs) r =
    let over : nat_lt low x.id ≡ true = let l = r.0 in grind (arith, nat_tests, l) in
    let l = r.0 in
    rw over (ap (λ sts. after_sending (allowance window x) x ∷ sts)
    (same_streams low x.id x.id last (window - allowance window x) xs r.3 (omega arith) (omega arith) ∙ all_streams x.id last (window - allowance window x) xs r.3))

pub all_left : (low last window : ℕ) (ss : List Stream) → AreRising low last ss → left_above low window ss ≡ window_left window ss
unfolding window_left
all_left low last window [] r = refl
all_left low last window (x ∷ xs) r =
    let over : nat_lt low x.id ≡ true = let l = r.0 in grind (arith, nat_tests, l) in
    let l = r.0 in
    rw over (same_left low x.id x.id last (window - allowance window x) xs r.3 (omega arith) (omega arith) ∙ all_left x.id last (window - allowance window x) xs r.3)

-- ---- where none can send, nothing is sent

pub none_frames : (book : List Entry) (size after window : ℕ) (ss : List Stream) → find (ready_above after) ss ≡ None → frames_above book size after window ss ≡ []
none_frames book size after window [] e = refl
none_frames book size after window (x ∷ xs) e = at (λ g. none_frames book size after window xs g) (ready_above after x) refl e
  where
    at : (find (ready_above after) xs ≡ None → frames_above book size after window xs ≡ []) → (t : Bool) → ready_above after x ≡ t → cond t (Some x) (find (ready_above after) xs) ≡ None → frames_above book size after window (x ∷ xs) ≡ []
    at more true w e = absurd (none_some x (sym e))
    at more false w e = rw (idle after window x w, no_frames book size x, less_nothing window) (more e)

pub none_streams : (after window : ℕ) (ss : List Stream) → find (ready_above after) ss ≡ None → streams_above after window ss ≡ ss
none_streams after window [] e = refl
none_streams after window (x ∷ xs) e = at (λ g. none_streams after window xs g) (ready_above after x) refl e
  where
    at : (find (ready_above after) xs ≡ None → streams_above after window xs ≡ xs) → (t : Bool) → ready_above after x ≡ t → cond t (Some x) (find (ready_above after) xs) ≡ None → streams_above after window (x ∷ xs) ≡ x ∷ xs
    at more true w e = absurd (none_some x (sym e))
    at more false w e = rw (idle after window x w, same_stream x, less_nothing window) (ap (λ sts. x ∷ sts) (more e))

pub none_left : (after window : ℕ) (ss : List Stream) → find (ready_above after) ss ≡ None → left_above after window ss ≡ window
none_left after window [] e = refl
none_left after window (x ∷ xs) e = at (λ g. none_left after window xs g) (ready_above after x) refl e
  where
    at : (find (ready_above after) xs ≡ None → left_above after window xs ≡ window) → (t : Bool) → ready_above after x ≡ t → cond t (Some x) (find (ready_above after) xs) ≡ None → left_above after window (x ∷ xs) ≡ window
    at more true w e = absurd (none_some x (sym e))
    at more false w e = rw (idle after window x w, less_nothing window) (more e)

-- ---- where nothing is left of the window, nothing is sent

no_window : (after : ℕ) (st : Stream) → allowance_above after 0 st ≡ 0
unfolding allowance
no_window after st = at (nat_lt after st.id)
  where
    at : (t : Bool) → cond t (min (min (octets_waiting st) (sendable st.numbers.send)) 0) 0 ≡ 0
    at true = omega arith
    at false = refl

pub spent_frames : (book : List Entry) (size after : ℕ) (ss : List Stream) → frames_above book size after 0 ss ≡ []
spent_frames book size after [] = refl
spent_frames book size after (x ∷ xs) = rw (no_window after x, no_frames book size x) (spent_frames book size after xs)

pub spent_streams : (after : ℕ) (ss : List Stream) → streams_above after 0 ss ≡ ss
spent_streams after [] = refl
spent_streams after (x ∷ xs) = rw (no_window after x, same_stream x) (ap (λ sts. x ∷ sts) (spent_streams after xs))

pub spent_left : (after : ℕ) (ss : List Stream) → left_above after 0 ss ≡ 0
spent_left after [] = refl
spent_left after (x ∷ xs) = rw (no_window after x) (spent_left after xs)

-- ---- the first that can send sends its share

not_above_itself : (n : ℕ) → nat_lt n n ≡ false
not_above_itself n = grind (arith, nat_tests)

pub ready_is_above : (after : ℕ) (st : Stream) → ready_above after st ≡ true → nat_lt after st.id ≡ true
ready_is_above after st e = at (nat_lt after st.id) e
  where
    at : (t : Bool) → (t && is_ready st) ≡ true → t ≡ true
    at true e = refl
    at false e = absurd (false≢true e)

pub next_frames : (book : List Entry) (size after low last window : ℕ) (ss : List Stream) (st : Stream) → AreRising low last ss → find (ready_above after) ss ≡ Some st →
    frames_above book size after window ss ≡ allowance_frames book size (allowance window st) st ++ frames_above book size st.id (window - allowance window st) ss
next_frames book size after low last window [] st r e = absurd (none_some st e)
next_frames book size after low last window (x ∷ xs) st r e = at (λ g. next_frames book size after x.id last window xs st r.3 g) (ready_above after x) refl e
  where
    v : ℕ
    v = window - allowance window x

    here : nat_lt after x.id ≡ true → frames_above book size after window (x ∷ xs) ≡ allowance_frames book size (allowance window x) x ++ frames_above book size x.id v (x ∷ xs)
    here over =
        let same = same_frames book size after x.id x.id last v xs r.3 (grind (arith, nat_tests, over)) (omega arith) in
        rw (over, not_above_itself x.id, no_frames book size x, less_nothing v) (ap (λ fs. allowance_frames book size (allowance window x) x ++ fs) same)

    at : (find (ready_above after) xs ≡ Some st → frames_above book size after window xs ≡ allowance_frames book size (allowance window st) st ++ frames_above book size st.id (window - allowance window st) xs) →
        (t : Bool) → ready_above after x ≡ t → cond t (Some x) (find (ready_above after) xs) ≡ Some st →
        frames_above book size after window (x ∷ xs) ≡ allowance_frames book size (allowance window st) st ++ frames_above book size st.id (window - allowance window st) (x ∷ xs)
    at more true w e =
        let P : Stream → Type 0 = λ y. frames_above book size after window (x ∷ xs) ≡ allowance_frames book size (allowance window y) y ++ frames_above book size y.id (window - allowance window y) (x ∷ xs) in
        subst P (some_same x st e) (here (ready_is_above after x w))
    at more false w e =
        let behind = found_above (ready_above after) x.id last xs st r.3 e in
        let under : nat_lt st.id x.id ≡ false = grind (arith, nat_tests, behind) in
        rw (idle after window x w, under, no_frames book size x, less_nothing window, less_nothing (window - allowance window st)) (more e)

pub next_left : (after low last window : ℕ) (ss : List Stream) (st : Stream) → AreRising low last ss → find (ready_above after) ss ≡ Some st →
    left_above after window ss ≡ left_above st.id (window - allowance window st) ss
next_left after low last window [] st r e = absurd (none_some st e)
next_left after low last window (x ∷ xs) st r e = at (λ g. next_left after x.id last window xs st r.3 g) (ready_above after x) refl e
  where
    v : ℕ
    v = window - allowance window x

    here : nat_lt after x.id ≡ true → left_above after window (x ∷ xs) ≡ left_above x.id v (x ∷ xs)
    here over =
        let same = same_left after x.id x.id last v xs r.3 (grind (arith, nat_tests, over)) (omega arith) in
        rw (over, not_above_itself x.id, less_nothing v) same

    at : (find (ready_above after) xs ≡ Some st → left_above after window xs ≡ left_above st.id (window - allowance window st) xs) →
        (t : Bool) → ready_above after x ≡ t → cond t (Some x) (find (ready_above after) xs) ≡ Some st → left_above after window (x ∷ xs) ≡ left_above st.id (window - allowance window st) (x ∷ xs)
    at more true w e =
        let P : Stream → Type 0 = λ y. left_above after window (x ∷ xs) ≡ left_above y.id (window - allowance window y) (x ∷ xs) in
        subst P (some_same x st e) (here (ready_is_above after x w))
    at more false w e =
        let behind = found_above (ready_above after) x.id last xs st r.3 e in
        let under : nat_lt st.id x.id ≡ false = grind (arith, nat_tests, behind) in
        rw (idle after window x w, under, less_nothing window, less_nothing (window - allowance window st)) (more e)

-- ---- and its record is put in its place

pub id-after_sending : (n : ℕ) (st : Stream) → (after_sending n st).id ≡ st.id
unfolding after_sending
id-after_sending n st = at (n == 0) (octets_waiting st == n) st.kind
  where
    ended : (kind : StreamState) → (server_ended_as kind (with_paid st n)).id ≡ st.id
    ended Idle = refl
    ended Skipped = refl
    ended BothOpen = refl
    ended HalfRemote = refl
    ended HalfLocal = refl
    ended Ended = refl
    ended PeerReset = refl
    ended WeReset = refl

    at : (a b : Bool) (kind : StreamState) → (cond a st (cond b (server_ended_as kind (with_paid st n)) (with_body_remaining (with_paid st n) (octets_waiting st - n)))).id ≡ st.id
    at true b kind = refl
    at false true kind = ended kind
    at false false kind = refl

pub next_streams : (after low last window : ℕ) (ss : List Stream) (st : Stream) → AreRising low last ss → find (ready_above after) ss ≡ Some st →
    streams_above after window ss ≡ streams_above st.id (window - allowance window st) (put (after_sending (allowance window st) st) ss)
next_streams after low last window [] st r e = absurd (none_some st e)
next_streams after low last window (x ∷ xs) st r e = at (λ g. next_streams after x.id last window xs st r.3 g) (ready_above after x) refl e
  where
    v : ℕ
    v = window - allowance window x

    new : Stream
    new = after_sending (allowance window x) x

    same_id : eqb x.id new.id ≡ true
    same_id = let e = id-after_sending (allowance window x) x in grind (arith, nat_tests, e)

    here : nat_lt after x.id ≡ true → streams_above after window (x ∷ xs) ≡ streams_above x.id v (put new (x ∷ xs))
    here over =
        let same = same_streams after x.id x.id last v xs r.3 (grind (arith, nat_tests, over)) (omega arith) in
        let under : nat_lt x.id new.id ≡ false = let e = id-after_sending (allowance window x) x in grind (arith, nat_tests, e) in
        rw (over, same_id, under, same_stream new, less_nothing v) (ap (λ sts. new ∷ sts) same)

    at : (find (ready_above after) xs ≡ Some st → streams_above after window xs ≡ streams_above st.id (window - allowance window st) (put (after_sending (allowance window st) st) xs)) →
        (t : Bool) → ready_above after x ≡ t → cond t (Some x) (find (ready_above after) xs) ≡ Some st →
        streams_above after window (x ∷ xs) ≡ streams_above st.id (window - allowance window st) (put (after_sending (allowance window st) st) (x ∷ xs))
    at more true w e =
        let P : Stream → Type 0 = λ y. streams_above after window (x ∷ xs) ≡ streams_above y.id (window - allowance window y) (put (after_sending (allowance window y) y) (x ∷ xs)) in
        subst P (some_same x st e) (here (ready_is_above after x w))
    at more false w e =
        let behind = found_above (ready_above after) x.id last xs st r.3 e in
        let under : nat_lt st.id x.id ≡ false = grind (arith, nat_tests, behind) in
        let other : eqb x.id (after_sending (allowance window st) st).id ≡ false = let i = id-after_sending (allowance window st) st in grind (arith, nat_tests, behind, i) in
        rw (idle after window x w, other, under, same_stream x, less_nothing window, less_nothing (window - allowance window st)) (ap (λ sts. x ∷ sts) (more e))

-- a record that is not above it does not matter for the rest
put_left : (after window : ℕ) (ss : List Stream) (x : Stream) → nat_lt after x.id ≡ false → left_above after window (put x ss) ≡ left_above after window ss
put_left after window [] x under = rw (under, less_nothing window) refl
put_left after window (y ∷ ys) x under = at (put_left after (window - allowance_above after window y) ys x under) (eqb y.id x.id) (eqb-true y.id x.id)
  where
    behind : nat_lt after y.id ≡ false → left_above after window (x ∷ ys) ≡ left_above after window (y ∷ ys)
    behind other = rw (under, other) refl

    at : left_above after (window - allowance_above after window y) (put x ys) ≡ left_above after (window - allowance_above after window y) ys →
        (t : Bool) → (t ≡ true → y.id ≡ x.id) → left_above after window (cond t (x ∷ ys) (y ∷ put x ys)) ≡ left_above after window (y ∷ ys)
    at more true same = behind (ap (λ i. nat_lt after i) (same refl) ∙ under)
    at more false same = more

pub next_left_put : (after low last window : ℕ) (ss : List Stream) (st : Stream) → AreRising low last ss → find (ready_above after) ss ≡ Some st →
    left_above after window ss ≡ left_above st.id (window - allowance window st) (put (after_sending (allowance window st) st) ss)
next_left_put after low last window ss st r e =
    let n = allowance window st in
    let under : nat_lt st.id (after_sending n st).id ≡ false = let i = id-after_sending n st in grind (arith, nat_tests, i) in
    next_left after low last window ss st r e ∙ sym (put_left st.id (window - n) ss (after_sending n st) under)

-- ---- the record that is found

pub found_record : (p : Stream → Bool) (low last : ℕ) (ss : List Stream) (st : Stream) → AreRising low last ss → find p ss ≡ Some st →
    (record_of ss st.id ≡ Some st) × (st.id % 2 ≡ 1) × (st.id ≤ last)
found_record p low last [] st r e = absurd (none_some st e)
found_record p low last (x ∷ xs) st r e = at (λ g. found_record p x.id last xs st r.3 g) (p x) e
  where
    at : (find p xs ≡ Some st → (record_of xs st.id ≡ Some st) × (st.id % 2 ≡ 1) × (st.id ≤ last)) → (t : Bool) → cond t (Some x) (find p xs) ≡ Some st →
        (record_of (x ∷ xs) st.id ≡ Some st) × (st.id % 2 ≡ 1) × (st.id ≤ last)
    at more true e =
        let P : Stream → Type 0 = λ y. (record_of (x ∷ xs) y.id ≡ Some y) × (y.id % 2 ≡ 1) × (y.id ≤ last) in
        let itself : eqb x.id x.id ≡ true = grind (arith, nat_tests) in
        subst P (some_same x st e) (rw itself refl, r.1, r.2)
    at more false e =
        let m = more e in
        let behind = found_above p x.id last xs st r.3 e in
        let other : eqb x.id st.id ≡ false = grind (arith, nat_tests, behind) in
        (rw other m.0, m.1, m.2)

-- so it is the stream with its identifier
pub found_stream : (p : Stream → Bool) (last : ℕ) (ss : List Stream) (st : Stream) → AreRising 0 last ss → find p ss ≡ Some st → stream_at last ss st.id ≡ st
unfolding stream_at
found_stream p last ss st r e =
    let m = found_record p 0 last ss st r e in
    let odd : eqb (st.id % 2) 0 ≡ false = let o = m.1 in grind (arith, nat_tests, o) in
    let known : nat_lt last st.id ≡ false = let w = m.2 in grind (arith, nat_tests, w) in
    rw (odd, known, m.0) refl

-- the first that can send is the stream with the identifier that is found
pub next_is : (after last : ℕ) (ss : List Stream) (id : ℕ) → AreRising 0 last ss → next_ready after ss ≡ Some id → find (ready_above after) ss ≡ Some (stream_at last ss id)
next_is after last ss id r e = at (find (ready_above after) ss) refl e
  where
    at : (o : Option Stream) → find (ready_above after) ss ≡ o → option_map id_of o ≡ Some id → o ≡ Some (stream_at last ss id)
    at None f e = absurd (none_some id e)
    at (Some st) f e = ap (λ x. Some x) (sym (ap (λ i. stream_at last ss i) (sym (some_same st.id id e)) ∙ found_stream (ready_above after) last ss st r f))

ready_is_live : (after : ℕ) (st : Stream) → ready_above after st ≡ true → is_live st.kind ≡ true
unfolding octets_waiting
ready_is_live after st e = at (nat_lt after st.id) (is_live st.kind) e
  where
    at : (a b : Bool) → (a && (nat_lt 0 (cond b (octets_left st.numbers.body_remaining) 0) && int_lt (pos 0) st.numbers.send)) ≡ true → b ≡ true
    at true true e = refl
    at true false e = absurd (false≢true e)
    at false b e = absurd (false≢true e)

pub found_passes : (p : Stream → Bool) (ss : List Stream) (st : Stream) → find p ss ≡ Some st → p st ≡ true
found_passes p [] st e = absurd (none_some st e)
found_passes p (x ∷ xs) st e = at (λ g. found_passes p xs st g) (p x) refl e
  where
    at : (find p xs ≡ Some st → p st ≡ true) → (t : Bool) → p x ≡ t → cond t (Some x) (find p xs) ≡ Some st → p st ≡ true
    at more true w e = let P : Stream → Type 0 = λ y. p y ≡ true in subst P (some_same x st e) w
    at more false w e = more e

-- what is known of the first that can send
pub next_known : (after last : ℕ) (ss : List Stream) (st : Stream) → AreRising 0 last ss → find (ready_above after) ss ≡ Some st → IsWaiting last ss st
next_known after last ss st r e =
    let m = found_record (ready_above after) 0 last ss st r e in
    let w = found_passes (ready_above after) ss st e in
    record { within = m.2; odd = m.1; live = ready_is_live after st w; found = found_stream (ready_above after) last ss st r e }

pub next_above : (after : ℕ) (ss : List Stream) (st : Stream) → find (ready_above after) ss ≡ Some st → after < st.id
next_above after ss st e = let w = ready_is_above after st (found_passes (ready_above after) ss st e) in grind (arith, nat_tests, w)

-- the record after it has sent is that of a live stream
pub stays_live : (n last : ℕ) (ss : List Stream) (st x : Stream) → IsWaiting last ss st → x ≡ after_sending n st → is_live (stream_at last ss x.id).kind ≡ true
stays_live n last ss st x known e =
    let same : x.id ≡ st.id = ap (λ (y : Stream). y.id) e ∙ id-after_sending n st in
    ap (λ i. is_live (stream_at last ss i).kind) same ∙ ap (λ (y : Stream). is_live y.kind) known.found ∙ known.live

-- ---- records put together

abbrev pub both : List Stream → ℕ → Records
both ss last = record { streams = ss; last = last }

pub records_are : (r : Records) (ss : List Stream) (last : ℕ) → r.streams ≡ ss → r.last ≡ last → r ≡ both ss last
records_are r ss last e f = ap (λ s. both s r.last) e ∙ ap (λ l. both ss l) f

-- ---- the rest of the window

pub allowance_within : (window : ℕ) (st : Stream) → allowance window st ≤ window
unfolding allowance
allowance_within window st = omega arith

pub left_within : (window : ℕ) (ss : List Stream) → window_left window ss ≤ window
unfolding window_left
left_within window [] = omega arith
left_within window (st ∷ sts) = let m = left_within (window - allowance window st) sts in omega (arith, m, allowance_within window st)

-- ---- what is found

-- what is true of all is true of the one that is found
pub found_all : (P : Stream → Type 0) (p : Stream → Bool) (ss : List Stream) (st : Stream) → AllByRecursion P ss → find p ss ≡ Some st → P st
found_all P p [] st all e = absurd (none_some st e)
found_all P p (x ∷ xs) st all e = at (λ g. found_all P p xs st all.1 g) (p x) e
  where
    at : (find p xs ≡ Some st → P st) → (t : Bool) → cond t (Some x) (find p xs) ≡ Some st → P st
    at more true e = subst P (some_same x st e) all.0
    at more false e = more e

-- what is found is not above the last stream
pub found_within : (p : Stream → Bool) (last : ℕ) (ss : List Stream) (st : Stream) → AreRising 0 last ss → find p ss ≡ Some st → st.id ≤ last
found_within p last ss st r e = (found_record p 0 last ss st r e).2
