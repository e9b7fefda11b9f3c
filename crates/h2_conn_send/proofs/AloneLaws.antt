-- What is sent where no stream can send, or only the one whose record is put.
use Rattle.std.proofs.Common.{◌≡◌, ℕ, ◌-◌, ◌<◌, ◌≤◌, ◌%◌, Bool, true, false, ◌||◌, ◌&&◌, not, cond, eqb, List, [], ◌∷◌, ◌++◌, refl, ap, ◌∙◌, sym, subst, arith, max, true≢false, append-nil}
use Rattle.std.specs.List.{AllByRecursion, list_any}
use Rattle.h2_spec.specs.declared.streams.StreamState.{StreamState}
use Rattle.h2_spec.specs.declared.streams.Stream.{Stream}
use Rattle.h2_spec.specs.Requests.Answer.{Entry}
use Rattle.h2_spec.specs.SendPending.{allowance, allowance_frames, after_sending, sent_frames, all_after_sending, window_left}
use Rattle.h2_spec.specs.Stream.{Records, is_live, kind_of, octets_waiting, put, with_record}
use Rattle.h2_spec.specs.Window.{sendable}
use Rattle.h2_streams.specs.Kept.{is_ready}
use Rattle.h2_streams.specs.Put.{CanPut, can_become, is_closed}
use Rattle.h2_conn_send.specs.Sending.{sent_records, NoneSends}
use Rattle.h2_conn_send.proofs.AboveLaws.{same_stream, less_nothing, not_ready, id-after_sending, allowance_within}

-- ---- where none can send

allowance-lower : (w v : ℕ) (st : Stream) → v ≤ w → allowance w st ≡ 0 → allowance v st ≡ 0
unfolding allowance
allowance-lower w v st le h = omega (arith, le, h)

none-lower : (w v : ℕ) (ss : List Stream) → v ≤ w → NoneSends w ss → NoneSends v ss
none-lower w v [] le h = tt
none-lower w v (x ∷ xs) le h = (allowance-lower w v x le h.0, none-lower w v xs le h.1)

allowance-none : (st : Stream) → allowance 0 st ≡ 0
unfolding allowance
allowance-none st = omega arith

-- nothing is left of the connection's window
pub none-spent : (ss : List Stream) → NoneSends 0 ss
none-spent [] = tt
none-spent (x ∷ xs) = (allowance-none x, none-spent xs)

-- no stream is ready
pub none-ready : (w : ℕ) (ss : List Stream) → list_any is_ready ss ≡ false → NoneSends w ss
none-ready w [] h = tt
none-ready w (x ∷ xs) h = by (is_ready x) refl h (none-ready w xs)
  where
    by : (t : Bool) → is_ready x ≡ t → (t || list_any is_ready xs) ≡ false → (list_any is_ready xs ≡ false → NoneSends w xs) → NoneSends w (x ∷ xs)
    by true e k more = absurd (true≢false k)
    by false e k more = (not_ready w x e, more k)

-- one that sends nothing is passed by
sent-skip : (book : List Entry) (size w : ℕ) (x : Stream) (xs : List Stream) → allowance w x ≡ 0 → sent_frames book size w (x ∷ xs) ≡ sent_frames book size w xs
unfolding sent_frames
sent-skip book size w x xs h = rw (h, less_nothing w) refl

after-skip : (w : ℕ) (x : Stream) (xs : List Stream) → allowance w x ≡ 0 → all_after_sending w (x ∷ xs) ≡ x ∷ all_after_sending w xs
unfolding all_after_sending
after-skip w x xs h = rw (h, same_stream x, less_nothing w) refl

left-skip : (w : ℕ) (x : Stream) (xs : List Stream) → allowance w x ≡ 0 → window_left w (x ∷ xs) ≡ window_left w xs
unfolding window_left
left-skip w x xs h = rw (h, less_nothing w) refl

sent-first : (book : List Entry) (size w : ℕ) (x : Stream) (xs : List Stream) → sent_frames book size w (x ∷ xs) ≡ allowance_frames book size (allowance w x) x ++ sent_frames book size (w - allowance w x) xs
unfolding sent_frames
sent-first book size w x xs = refl

after-first : (w : ℕ) (x : Stream) (xs : List Stream) → all_after_sending w (x ∷ xs) ≡ after_sending (allowance w x) x ∷ all_after_sending (w - allowance w x) xs
unfolding all_after_sending
after-first w x xs = refl

left-first : (w : ℕ) (x : Stream) (xs : List Stream) → window_left w (x ∷ xs) ≡ window_left (w - allowance w x) xs
unfolding window_left
left-first w x xs = refl

pub sent-none : (book : List Entry) (size w : ℕ) (ss : List Stream) → NoneSends w ss → sent_frames book size w ss ≡ []
unfolding sent_frames
sent-none book size w [] h = refl
sent-none book size w (x ∷ xs) h = sent-skip book size w x xs h.0 ∙ sent-none book size w xs h.1

pub after-none : (w : ℕ) (ss : List Stream) → NoneSends w ss → all_after_sending w ss ≡ ss
unfolding all_after_sending
after-none w [] h = refl
after-none w (x ∷ xs) h = after-skip w x xs h.0 ∙ ap (λ ys. x ∷ ys) (after-none w xs h.1)

pub left-none : (w : ℕ) (ss : List Stream) → NoneSends w ss → window_left w ss ≡ w
unfolding window_left
left-none w [] h = refl
left-none w (x ∷ xs) h = left-skip w x xs h.0 ∙ left-none w xs h.1

-- nor can one with a record put of which nothing waits
allowance-quiet : (w : ℕ) (st : Stream) → octets_waiting st ≡ 0 → allowance w st ≡ 0
unfolding allowance
allowance-quiet w st h = omega (arith, h)

pub none-put : (w : ℕ) (st : Stream) (ss : List Stream) → octets_waiting st ≡ 0 → NoneSends w ss → NoneSends w (put st ss)
none-put w st [] none h = (allowance-quiet w st none, tt)
none-put w st (x ∷ xs) none h = at (eqb x.id st.id) (none-put w st xs none h.1)
  where
    at : (t : Bool) → NoneSends w (put st xs) → NoneSends w (cond t (st ∷ xs) (x ∷ put st xs))
    at true more = (allowance-quiet w st none, h.1)
    at false more = (h.0, more)

-- ---- where one record is put among such, its stream alone sends

pub sent-alone : (book : List Entry) (size w : ℕ) (st : Stream) (ss : List Stream) → NoneSends w ss → sent_frames book size w (put st ss) ≡ allowance_frames book size (allowance w st) st
sent-alone book size w st [] h = sent-first book size w st [] ∙ ap (λ fs. allowance_frames book size (allowance w st) st ++ fs) (sent-none book size (w - allowance w st) [] tt) ∙ append-nil (allowance_frames book size (allowance w st) st)
sent-alone book size w st (x ∷ xs) h = at (eqb x.id st.id) (sent-alone book size w st xs h.1)
  where
    n : ℕ
    n = allowance w st

    at : (t : Bool) → sent_frames book size w (put st xs) ≡ allowance_frames book size n st → sent_frames book size w (cond t (st ∷ xs) (x ∷ put st xs)) ≡ allowance_frames book size n st
    at true more =
        sent-first book size w st xs ∙ ap (λ fs. allowance_frames book size n st ++ fs) (sent-none book size (w - n) xs (none-lower w (w - n) xs (omega arith) h.1)) ∙ append-nil (allowance_frames book size n st)
    at false more = sent-skip book size w x (put st xs) h.0 ∙ more

after-alone : (w : ℕ) (st : Stream) (ss : List Stream) → NoneSends w ss → all_after_sending w (put st ss) ≡ put (after_sending (allowance w st) st) ss
unfolding after_sending
after-alone w st [] h = after-first w st [] ∙ ap (λ ys. after_sending (allowance w st) st ∷ ys) (after-none (w - allowance w st) [] tt)
after-alone w st (x ∷ xs) h = rw (id-after_sending (allowance w st) st) (at (eqb x.id st.id) (after-alone w st xs h.1))
  where
    now : Stream
    now = after_sending (allowance w st) st

    at : (t : Bool) → all_after_sending w (put st xs) ≡ put now xs → all_after_sending w (cond t (st ∷ xs) (x ∷ put st xs)) ≡ cond t (now ∷ xs) (x ∷ put now xs)
    at true more = after-first w st xs ∙ ap (λ ys. now ∷ ys) (after-none (w - allowance w st) xs (none-lower w (w - allowance w st) xs (omega arith) h.1))
    at false more = after-skip w x (put st xs) h.0 ∙ ap (λ ys. x ∷ ys) more

left-alone : (w : ℕ) (st : Stream) (ss : List Stream) → NoneSends w ss → window_left w (put st ss) ≡ w - allowance w st
left-alone w st [] h = left-first w st [] ∙ left-none (w - allowance w st) [] tt
left-alone w st (x ∷ xs) h = at (eqb x.id st.id) (left-alone w st xs h.1)
  where
    at : (t : Bool) → window_left w (put st xs) ≡ w - allowance w st → window_left w (cond t (st ∷ xs) (x ∷ put st xs)) ≡ w - allowance w st
    at true more = left-first w st xs ∙ left-none (w - allowance w st) xs (none-lower w (w - allowance w st) xs (omega arith) h.1)
    at false more = left-skip w x (put st xs) h.0 ∙ more

pub count-alone : (w : ℕ) (st : Stream) (ss : List Stream) → NoneSends w ss → allowance w st ≡ w - window_left w (put st ss)
count-alone w st ss h = let left = left-alone w st ss h in let within = allowance_within w st in omega (arith, left, within)

-- and the records are those after sending
pub records-alone : (w n : ℕ) (st : Stream) (r : Records) → NoneSends w r.streams → n ≡ allowance w st → with_record (after_sending n st) r ≡ sent_records w (with_record st r)
records-alone w n st r h e =
    let now = after_sending n st in
    let streams = ap (λ k. put (after_sending k st) r.streams) e ∙ sym (after-alone w st r.streams h) in
    ap (λ (xs : List Stream). let s : Records = record { streams = xs; last = max r.last now.id } in s) streams
    ∙ ap (λ (i : ℕ). let s : Records = record { streams = all_after_sending w (put st r.streams); last = max r.last i } in s) (id-after_sending n st)

-- ---- what can be put before it sends can be put after it

quiet : (st : Stream) → is_live st.kind ≡ false → octets_waiting st ≡ 0
unfolding octets_waiting
quiet st e = rw e refl

lives : (a b : Bool) → (a || (b && not true)) ≡ true → (t : Bool) → (a || (b && not t)) ≡ true
lives true b h t = refl
lives false true h t = absurd (true≢false (sym h))
lives false false h t = absurd (true≢false (sym h))

pub can-put-sent : (n : ℕ) (st : Stream) (r : Records) → n ≤ octets_waiting st → CanPut st r → CanPut (after_sending n st) r
can-put-sent n st r within can = by (is_live st.kind) refl
  where
    now : Stream
    now = after_sending n st

    before : StreamState
    before = kind_of r.last r.streams st.id

    live : is_live st.kind ≡ true → can_become before st.kind ≡ true → can_become before now.kind ≡ true
    live e h = lives (is_live before) (is_closed before) (subst (λ (t : Bool). (is_live before || (is_closed before && not t)) ≡ true) e h) (is_live now.kind)

    by : (t : Bool) → is_live st.kind ≡ t → CanPut now r
    by true e = subst (λ (i : ℕ). (r.last < i → i % 2 ≡ 1) × (i ≤ r.last → can_become (kind_of r.last r.streams i) now.kind ≡ true)) (sym (id-after_sending n st)) (can.0, λ w. live e (can.1 w))
    by false e =
        let none : n ≡ 0 = let q = quiet st e in omega (arith, q, within) in
        subst (λ (y : Stream). CanPut y r) (sym (ap (λ k. after_sending k st) none ∙ same_stream st)) can

pub allowance-least : (w : ℕ) (st : Stream) → (allowance w st ≤ octets_waiting st) × (allowance w st ≤ sendable st.numbers.send)
unfolding allowance
allowance-least w st = (omega arith, omega arith)

-- what is true of all, with a record put, is true of that record
pub all-put : (P : Stream → Type 0) (st : Stream) (ss : List Stream) → AllByRecursion P (put st ss) → P st
all-put P st [] h = h.0
all-put P st (x ∷ xs) h = by (eqb x.id st.id) h (all-put P st xs)
  where
    by : (t : Bool) → AllByRecursion P (cond t (st ∷ xs) (x ∷ put st xs)) → (AllByRecursion P (put st xs) → P st) → P st
    by true h more = h.0
    by false h more = more h.1
