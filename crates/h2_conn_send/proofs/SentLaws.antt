-- The counts stay within their limits where the pending output is sent.
use Rattle.std.proofs.Common.{ℕ, ◌-◌, eqb, ◌≤◌, List, [], ◌∷◌, length, Bool, true, false, cond, refl, ◌∙◌, arith, ℤ, pos, negsuc, ◌+ℤ◌, ◌-ℤ◌, ◌≤ℤ◌}
use Rattle.h2_spec.specs.declared.connection.ConnectionState.{ConnectionState}
use Rattle.h2_spec.specs.declared.streams.Stream.{Stream}
use Rattle.h2_spec.specs.Requests.Answer.{Entry, picked}
use Rattle.h2_spec.specs.Requests.StreamEnds.{server_ended, with_body_remaining}
use Rattle.h2_spec.specs.SendPending.{after_sending, all_after_sending, allowance, with_paid}
use Rattle.h2_spec.specs.Stream.{Records, is_live, octets_waiting}
use Rattle.h2_spec.specs.Window.{sendable}
use Rattle.h2_conn_rules.specs.Sound.{AreSound, HasBody, InForce, IsSoundState, IsSoundStream, in_force, is_recorded}
use Rattle.h2_conn_rules.proofs.SoundLaws.{ended-body, ended-sound}
use Rattle.h2_conn_send.proofs.KindLaws.{sent-kind}

paid-below : (z : ℤ) (n : ℕ) → z ≤ℤ pos 2147483647 → (z -ℤ pos n) ≤ℤ pos 2147483647
paid-below z n h = grind (arith, h)

paid-above : (window n : ℕ) (z : ℤ) → window ≤ 2147483647 → n ≤ sendable z → pos window ≤ℤ (z +ℤ pos 2147483647) → pos window ≤ℤ ((z -ℤ pos n) +ℤ pos 2147483647)
paid-above window n (pos m) least within h = grind (arith, least, within)
paid-above window n (negsuc m) least within h = grind (arith, within, h)

paid-sound : (f : InForce) (n : ℕ) (st : Stream) → f.window ≤ 2147483647 → n ≤ sendable st.numbers.send → IsSoundStream f st → IsSoundStream f (with_paid st n)
paid-sound f n st least within h = (h.0, paid-below st.numbers.send n h.1, λ follows. paid-above f.window n st.numbers.send least within (h.2 follows))

paid-body : (book : List Entry) (n : ℕ) (st : Stream) → HasBody book st → HasBody book (with_paid st n)
unfolding octets_waiting
paid-body book n st h = h

left-body : (book : List Entry) (n : ℕ) (st : Stream) → HasBody book st → n ≤ octets_waiting st → HasBody book (with_body_remaining st n)
unfolding octets_waiting
left-body book n st h within = (h.0, by_test (is_live st.kind) (let most = h.1 in omega (arith, within, most)))
  where
    by_test : (t : Bool) → n ≤ length (picked book st.pick).body → cond t n 0 ≤ length (picked book st.pick).body
    by_test true e = e
    by_test false e = omega arith

-- a stream that sends no more than waits on it, and no more than its window lets pass
sent-sound-one : (book : List Entry) (f : InForce) (n : ℕ) (st : Stream) → f.window ≤ 2147483647 → n ≤ octets_waiting st → n ≤ sendable st.numbers.send → IsSoundStream f st × HasBody book st →
    IsSoundStream f (after_sending n st) × HasBody book (after_sending n st)
unfolding after_sending
sent-sound-one book f n st least waits within h = by_tests (eqb n 0) (eqb (octets_waiting st) n)
  where
    paid : Stream
    paid = with_paid st n

    sound : IsSoundStream f paid
    sound = paid-sound f n st least within h.0

    body : HasBody book paid
    body = paid-body book n st h.1

    by_tests : (s t : Bool) → (let now = cond s st (cond t (server_ended paid) (with_body_remaining paid (octets_waiting st - n))) in IsSoundStream f now × HasBody book now)
    by_tests true t = h
    by_tests false true = (ended-sound f paid sound, ended-body book paid body)
    by_tests false false = (sound, left-body book (octets_waiting st - n) paid body (omega arith))

allowance-within : (window : ℕ) (st : Stream) → (allowance window st ≤ octets_waiting st) × (allowance window st ≤ sendable st.numbers.send)
unfolding allowance
allowance-within window st = (omega arith, omega arith)

all-sent-sound : (book : List Entry) (f : InForce) (window : ℕ) (streams : List Stream) → f.window ≤ 2147483647 → AreSound book f streams → AreSound book f (all_after_sending window streams)
unfolding all_after_sending
all-sent-sound book f window [] least all = tt
all-sent-sound book f window (st ∷ sts) least all =
    let n = allowance window st in
    let within = allowance-within window st in
    let one = sent-sound-one book f n st least within.0 within.1 (all.0.0, all.0.1) in
    ((one.0, one.1, sent-kind is_recorded refl refl n st ∙ all.0.2), all-sent-sound book f (window - n) sts least all.1)

-- the state is sound after sending
pub sent-sound : (book : List Entry) (core : ConnectionState) (r : Records) (window n : ℕ) → IsSoundState book core r →
    IsSoundState book (record core { send = core.send -ℤ pos n }) (record r { streams = all_after_sending window r.streams })
sent-sound book core r window n state = record { counts = state.counts; records = all-sent-sound book (in_force core) window r.streams state.counts.1 state.records; last = state.last }
