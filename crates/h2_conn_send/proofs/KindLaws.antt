-- What sending leaves as it is of the streams' states.
use Rattle.std.proofs.Common.{◌≡◌, ℕ, ◌-◌, ◌%◌, ltb, eqb, List, [], ◌∷◌, Bool, true, false, cond, Some, refl, ap, ◌∙◌}
use Rattle.h2_spec.specs.declared.streams.StreamState.{StreamState}
use Rattle.h2_spec.specs.declared.streams.StreamState.TheVariants.{Idle, Skipped, BothOpen, HalfRemote, HalfLocal, Ended, PeerReset, WeReset}
use Rattle.h2_spec.specs.declared.streams.Stream.{Stream}
use Rattle.h2_spec.specs.Requests.StreamEnds.{server_ended, server_ended_as, with_body_remaining}
use Rattle.h2_spec.specs.SendPending.{after_sending, all_after_sending, allowance, with_paid}
use Rattle.h2_spec.specs.Stream.{kind_of, not_live, octets_waiting, record_of, recorded, stream_at}
use Rattle.h2_conn_send.proofs.AboveLaws.{id-after_sending}

-- a test that says the same of a state and of that after the server's last frame
pub sent-kind : (test : StreamState → Bool) → test HalfLocal ≡ test BothOpen → test Ended ≡ test HalfRemote → (n : ℕ) (st : Stream) → test (after_sending n st).kind ≡ test st.kind
unfolding after_sending server_ended
sent-kind test both half n st = by_tests (eqb n 0) (eqb (octets_waiting st) n)
  where
    ended : (k : StreamState) → st.kind ≡ k → test (server_ended_as k (with_paid st n)).kind ≡ test k
    ended BothOpen e = both
    ended HalfRemote e = half
    ended Idle e = ap test e
    ended Skipped e = ap test e
    ended HalfLocal e = ap test e
    ended Ended e = ap test e
    ended PeerReset e = ap test e
    ended WeReset e = ap test e

    by_tests : (s t : Bool) → test (cond s st (cond t (server_ended_as st.kind (with_paid st n)) (with_body_remaining (with_paid st n) (octets_waiting st - n)))).kind ≡ test st.kind
    by_tests true t = refl
    by_tests false true = ended st.kind refl
    by_tests false false = refl

sent-record : (test : StreamState → Bool) → test HalfLocal ≡ test BothOpen → test Ended ≡ test HalfRemote → (id window : ℕ) (streams : List Stream) →
    test (recorded id (record_of (all_after_sending window streams) id)).kind ≡ test (recorded id (record_of streams id)).kind
unfolding all_after_sending
sent-record test both half id window [] = refl
sent-record test both half id window (st ∷ sts) =
    ap (λ i. test (recorded id (cond (eqb i id) (Some now) (record_of (all_after_sending (window - n) sts) id))).kind) (id-after_sending n st)
    ∙ by_test (eqb st.id id) (sent-record test both half id (window - n) sts)
  where
    n : ℕ
    n = allowance window st

    now : Stream
    now = after_sending n st

    by_test : (t : Bool) → test (recorded id (record_of (all_after_sending (window - n) sts) id)).kind ≡ test (recorded id (record_of sts id)).kind →
        test (recorded id (cond t (Some now) (record_of (all_after_sending (window - n) sts) id))).kind ≡ test (recorded id (cond t (Some st) (record_of sts id))).kind
    by_test true rest = sent-kind test both half n st
    by_test false rest = rest

-- the same of a stream by its identifier
pub sent-kinds : (test : StreamState → Bool) → test HalfLocal ≡ test BothOpen → test Ended ≡ test HalfRemote → (last id window : ℕ) (streams : List Stream) →
    test (kind_of last (all_after_sending window streams) id) ≡ test (kind_of last streams id)
unfolding stream_at
sent-kinds test both half last id window streams = by_tests (eqb (id % 2) 0) (ltb last id)
  where
    at : Bool → Bool → List Stream → Stream
    at s t sts = cond s (not_live id Idle) (cond t (not_live id Idle) (recorded id (record_of sts id)))

    by_tests : (s t : Bool) → test (at s t (all_after_sending window streams)).kind ≡ test (at s t streams).kind
    by_tests true t = refl
    by_tests false true = refl
    by_tests false false = sent-record test both half id window streams
