-- Sending pending output, as far as the windows go (RFC 9113, 5.2 and 6.9): each stream in turn sends the least of its
-- pending output, its own window and the rest of the connection's, in DATA of the peer's frame size and one last,
-- shorter or equal, which has END_STREAM where nothing waits any more.
use Rattle.std.specs.Prelude.{ℕ, zero, suc, ◌-◌, Bool, false, List, [], ◌∷◌, ◌++◌, length, min, take, drop, nat_le, ◌==◌, if◌then◌else◌, pos, ◌-ℤ◌}
use Rattle.h2_spec.specs.declared.streams.Stream.{Stream}
use Rattle.h2_spec.specs.Frames.FrameType.{DATA, END_STREAM}
use Rattle.h2_spec.specs.Frames.Frame.{Frame}
use Rattle.h2_spec.specs.Window.{sendable}
use Rattle.h2_spec.specs.Stream.{octets_waiting}
use Rattle.h2_spec.specs.State.{State}
use Rattle.h2_spec.specs.Requests.Answer.{Entry, picked}
use Rattle.h2_spec.specs.Change.{Step, flag_if}
use Rattle.h2_spec.specs.Requests.StreamEnds.{server_ended, with_body_remaining}

-- what a stream sends, where this much of the connection's window is left by those before it
unfoldable pub allowance : ℕ → Stream → ℕ
unfolding octets_waiting
allowance window st = min (min (octets_waiting st) (sendable st.numbers.send)) window

-- DATA of a body (6.1)
abbrev pub piece : ℕ → Bool → List ℕ → Frame
piece id ends xs = record { kind = DATA; flags = flag_if ends END_STREAM; stream = id; payload = xs }

-- octets as DATA of this size and a shorter or equal last one, which has END_STREAM where it ends the body
unfoldable pub data_upto : ℕ → ℕ → Bool → ℕ → List ℕ → List Frame
data_upto zero id ends size xs = []
data_upto (suc more) id ends size [] = []
data_upto (suc more) id ends size (x ∷ xs) =
    if nat_le (length (x ∷ xs)) size then piece id ends (x ∷ xs) ∷ [] else piece id false (take size (x ∷ xs)) ∷ data_upto more id ends size (drop size (x ∷ xs))

-- octets as DATA of this size and a shorter or equal last one
unfoldable pub data_frames : ℕ → Bool → ℕ → List ℕ → List Frame
unfolding data_upto
data_frames id ends size xs = data_upto (length xs) id ends size xs

-- the frames of a stream's share of this many octets
unfoldable pub allowance_frames : List Entry → ℕ → ℕ → Stream → List Frame
unfolding octets_waiting data_frames
allowance_frames book size n st =
    let body = (picked book st.pick).body in
    data_frames st.id (octets_waiting st == n) size (take n (drop (length body - octets_waiting st) body))

-- octets are taken from the stream's send window (6.9)
abbrev pub with_paid : Stream → ℕ → Stream
with_paid st n = record st { numbers = record st.numbers { send = st.numbers.send -ℤ pos n } }

-- the stream after it sent its share; one that sends nothing stays as it is, also where nothing waits
unfoldable pub after_sending : ℕ → Stream → Stream
unfolding octets_waiting server_ended
after_sending n st =
    if n == 0 then st
    else if octets_waiting st == n then server_ended (with_paid st n)
    else with_body_remaining (with_paid st n) (octets_waiting st - n)

-- each stream sends its share of the connection's window; identifiers rise in the list, as its order law says
unfoldable pub sent_frames : List Entry → ℕ → ℕ → List Stream → List Frame
unfolding allowance allowance_frames
sent_frames book size window [] = []
sent_frames book size window (st ∷ sts) = allowance_frames book size (allowance window st) st ++ sent_frames book size (window - allowance window st) sts

-- the records after each stream has sent its share
unfoldable pub all_after_sending : ℕ → List Stream → List Stream
unfolding allowance after_sending
all_after_sending window [] = []
all_after_sending window (st ∷ sts) = after_sending (allowance window st) st ∷ all_after_sending (window - allowance window st) sts

-- the rest of the connection's window
unfoldable pub window_left : ℕ → List Stream → ℕ
unfolding allowance
window_left window [] = window
window_left window (st ∷ sts) = window_left (window - allowance window st) sts

-- the state after sending, and the frames sent
unfoldable pub send_pending : State → Step
unfolding sent_frames all_after_sending window_left
send_pending s =
    let window = sendable s.core.send in
    record {
      state = record s { streams = all_after_sending window s.streams; core = record s.core { send = s.core.send -ℤ pos (window - window_left window s.streams) } };
      sent = sent_frames s.book s.core.peer.frame window s.streams;
    }
