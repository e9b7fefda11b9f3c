-- Every frame that is sent has a payload whose length fits a head (RFC 9113, 4.1).
use Rattle.std.proofs.Common.{ℕ, zero, suc, ◌-◌, ◌<◌, ◌^◌, List, [], ◌∷◌, ◌++◌, Bool, false, length, take, drop, leb-true, arith, length-take}
use Rattle.std.proofs.lemmas.Bool.{cond_both}
use Rattle.std.specs.Prelude.{nat_le}
use Rattle.h2_spec.specs.declared.reactions.StreamFrame.{StreamFrame}
use Rattle.h2_spec.specs.declared.reactions.StreamFrame.TheVariants.{NoStreamFrame, Reset, StreamCredit}
use Rattle.h2_spec.specs.declared.streams.Stream.{Stream}
use Rattle.h2_spec.specs.Requests.Answer.{Entry}
use Rattle.h2_spec.specs.Change.{stream_frames}
use Rattle.h2_spec.specs.Frames.Frame.{Frame}
use Rattle.h2_spec.specs.SendPending.{data_frames, data_upto, piece, sent_frames, allowance, allowance_frames}
use Rattle.h2_spec.specs.Short.{AreShort}

pub short-append : (fs gs : List Frame) → AreShort fs → AreShort gs → AreShort (fs ++ gs)
short-append [] gs h k = k
short-append (f ∷ fs) gs h k = (h.0, short-append fs gs h.1 k)

pub second-short : (second : StreamFrame) → AreShort (stream_frames second)
second-short NoStreamFrame = tt
second-short (Reset id code) = (omega arith, tt)
second-short (StreamCredit id n) = (omega arith, tt)

data_upto-short : (more id : ℕ) (ends : Bool) (size : ℕ) (xs : List ℕ) → size < 2 ^ 24 → AreShort (data_upto more id ends size xs)
unfolding data_upto
data_upto-short zero id ends size xs h = tt
data_upto-short (suc more) id ends size [] h = tt
data_upto-short (suc more) id ends size (x ∷ xs) h =
    cond_both (nat_le (length (x ∷ xs)) size) (piece id ends (x ∷ xs) ∷ []) (piece id false (take size (x ∷ xs)) ∷ data_upto more id ends size (drop size (x ∷ xs))) AreShort
    (λ e. (omega (arith, leb-true (length (x ∷ xs)) size e), tt))
    (λ e. (omega (arith, length-take size (x ∷ xs)), data_upto-short more id ends size (drop size (x ∷ xs)) h))

share_frames-short : (book : List Entry) (size n : ℕ) (st : Stream) → size < 2 ^ 24 → AreShort (allowance_frames book size n st)
unfolding allowance_frames data_frames
share_frames-short book size n st h = data_upto-short _ _ _ size _ h

pub sent_frames-short : (book : List Entry) (size window : ℕ) (sts : List Stream) → size < 2 ^ 24 → AreShort (sent_frames book size window sts)
unfolding sent_frames
sent_frames-short book size window [] h = tt
sent_frames-short book size window (st ∷ sts) h =
    short-append (allowance_frames book size (allowance window st) st) (sent_frames book size (window - allowance window st) sts)
    (share_frames-short book size (allowance window st) st h) (sent_frames-short book size (window - allowance window st) sts h)
