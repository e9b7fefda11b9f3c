-- An error code is sent exactly where there is a cause, and it is the code of that cause.
use Rattle.std.proofs.Common.{◌≡◌, ℕ, zero, suc, Bool, true, false, cond, List, [], ◌∷◌, ◌++◌, ◌-◌, eqb, leb, length, take, drop, Option, Some, None, refl, sym, ap, ◌∙◌, append_assoc}
use Rattle.std.proofs.lemmas.List.{append-nil}
use Rattle.h2_spec.specs.declared.connection.Phase.{Phase}
use Rattle.h2_spec.specs.declared.connection.Phase.TheVariants.{Preface, Settings, Running, Ended}
use Rattle.h2_spec.specs.declared.errors.ErrorCode.{ErrorCode}
use Rattle.h2_spec.specs.declared.errors.ErrorCode.TheVariants.{ProtocolError, FlowControlError, StreamClosed, FrameSizeError, RefusedStream, CompressionError, EnhanceYourCalm}
use Rattle.h2_spec.specs.declared.reactions.AnswerStart.{AnswerStart}
use Rattle.h2_spec.specs.declared.reactions.Change.{Change}
use Rattle.h2_spec.specs.declared.reactions.ConnectionFrame.{ConnectionFrame}
use Rattle.h2_spec.specs.declared.reactions.ConnectionFrame.TheVariants.{NoConnectionFrame, SettingsAck, PingAck, Credit}
use Rattle.h2_spec.specs.declared.reactions.StreamFrame.{StreamFrame}
use Rattle.h2_spec.specs.declared.reactions.StreamFrame.TheVariants.{NoStreamFrame, Reset, StreamCredit}
use Rattle.h2_spec.specs.declared.streams.Stream.{Stream}
use Rattle.h2_spec.specs.Octets.{four_octets, big_endian}
use Rattle.h2_spec.specs.Causes.Cause.{code_of}
use Rattle.h2_spec.specs.Causes.Errors.{code_number}
use Rattle.h2_spec.specs.Frames.Frame.{Frame, Item}
use Rattle.h2_spec.specs.Requests.Answer.{Entry, picked}
use Rattle.h2_spec.specs.Window.{sendable}
use Rattle.h2_spec.specs.Stream.{octets_waiting}
use Rattle.h2_spec.specs.State.{State}
use Rattle.h2_spec.specs.Change.{Step, connection_frames, stream_frames, answer_frames, frames_of, goaway, rst_stream}
use Rattle.h2_spec.specs.Requests.Headers.{FrameEffect, Breaks, Makes}
use Rattle.h2_spec.specs.SendPending.{piece, data_upto, data_frames, allowance, allowance_frames, sent_frames, send_pending}
use Rattle.h2_spec.specs.Effect.{cause_of, stream_cause, effect_cause, item_effect, concluded, effect}
use Rattle.h2_spec.specs.Trace.{step, then_sent}
use Rattle.h2_spec_laws.specs.ErrorCodes.{error_code_in, error_codes_in, error_codes_of}

-- of frames after others
of-both : (a b : List Frame) → error_codes_in (a ++ b) ≡ error_codes_in a ++ error_codes_in b
of-both [] b = refl
of-both (f ∷ fs) b = ap (λ codes. error_code_in f ++ codes) (of-both fs b) ∙ sym (append_assoc (error_code_in f) (error_codes_in fs) (error_codes_in b))

-- frames without a code after others
of-first-part : (a b : List Frame) → error_codes_in b ≡ [] → error_codes_in (a ++ b) ≡ error_codes_in a
of-first-part a b h = of-both a b ∙ ap (λ codes. error_codes_in a ++ codes) h ∙ append-nil (error_codes_in a)

-- frames without a code before others
of-last-part : (a b : List Frame) → error_codes_in a ≡ [] → error_codes_in (a ++ b) ≡ error_codes_in b
of-last-part a b h = of-both a b ∙ ap (λ codes. codes ++ error_codes_in b) h

-- ---- DATA has no error code

of-data : (more id : ℕ) (ends : Bool) (size : ℕ) (xs : List ℕ) → error_codes_in (data_upto more id ends size xs) ≡ []
unfolding data_upto
of-data zero id ends size xs = refl
of-data (suc more) id ends size [] = refl
of-data (suc more) id ends size (x ∷ xs) = at (leb (length (x ∷ xs)) size) (of-data more id ends size (drop size (x ∷ xs)))
  where
    at : (b : Bool) → error_codes_in (data_upto more id ends size (drop size (x ∷ xs))) ≡ [] →
        error_codes_in (cond b (piece id ends (x ∷ xs) ∷ []) (piece id false (take size (x ∷ xs)) ∷ data_upto more id ends size (drop size (x ∷ xs)))) ≡ []
    at true e = refl
    at false e = e

of-allowance : (book : List Entry) (size n : ℕ) (st : Stream) → error_codes_in (allowance_frames book size n st) ≡ []
unfolding allowance_frames data_frames
of-allowance book size n st =
    let body = (picked book st.pick).body in
    let share = take n (drop (length body - octets_waiting st) body) in
    of-data (length share) st.id (eqb (octets_waiting st) n) size share

of-waiting : (book : List Entry) (size window : ℕ) (sts : List Stream) → error_codes_in (sent_frames book size window sts) ≡ []
unfolding sent_frames
of-waiting book size window [] = refl
of-waiting book size window (st ∷ sts) =
    let left = window - allowance window st in
    of-last-part (allowance_frames book size (allowance window st) st) (sent_frames book size left sts) (of-allowance book size (allowance window st) st)
    ∙ of-waiting book size left sts

of-pending : (s : State) → error_codes_in (send_pending s).sent ≡ []
unfolding send_pending
of-pending s = of-waiting s.book s.core.peer.frame (sendable s.core.send) s.streams

-- ---- RST_STREAM and GOAWAY have the code that they are sent with

code-back : (code : ErrorCode) → four_octets (big_endian 4 (code_number code)) 0 ≡ code_number code
code-back ProtocolError = refl
code-back FlowControlError = refl
code-back StreamClosed = refl
code-back FrameSizeError = refl
code-back RefusedStream = refl
code-back CompressionError = refl
code-back EnhanceYourCalm = refl

of-rst_stream : (id : ℕ) (code : ErrorCode) → error_codes_in (rst_stream id code ∷ []) ≡ code_number code ∷ []
of-rst_stream id code = ap (λ n. n ∷ []) (code-back code)

of-goaway : (last : ℕ) (code : ErrorCode) → error_codes_in (goaway last code ∷ []) ≡ code_number code ∷ []
of-goaway last code = ap (λ n. n ∷ []) (code-back code)

-- ---- what a change sends

of-first : (f : ConnectionFrame) → error_codes_in (connection_frames f) ≡ []
of-first NoConnectionFrame = refl
of-first SettingsAck = refl
of-first (PingAck octets) = refl
of-first (Credit n) = refl

of-answer : (book : List Entry) (a : Option AnswerStart) → error_codes_in (answer_frames book a) ≡ []
of-answer book None = refl
of-answer book (Some a) = refl

of-second : (f : StreamFrame) → error_codes_in (stream_frames f) ≡ error_codes_of (stream_cause f)
of-second NoStreamFrame = refl
of-second (Reset id cause) = of-rst_stream id (code_of cause)
of-second (StreamCredit id n) = refl

of-change : (book : List Entry) (c : Change) → error_codes_in (frames_of book c) ≡ error_codes_of (stream_cause c.stream_frame)
unfolding frames_of
of-change book c =
    of-first-part (connection_frames c.connection_frame ++ stream_frames c.stream_frame) (answer_frames book c.answer) (of-answer book c.answer)
    ∙ of-last-part (connection_frames c.connection_frame) (stream_frames c.stream_frame) (of-first c.connection_frame)
    ∙ of-second c.stream_frame

of-effect : (s : State) (e : FrameEffect) → error_codes_in (concluded s e).sent ≡ error_codes_of (effect_cause e)
of-effect s (Breaks cause) = of-goaway s.core.last (code_of cause)
of-effect s (Makes t c) = of-change t.book c

-- ---- an item

then-waiting : (f : Phase) (e : Step) → error_codes_in (then_sent f e).sent ≡ error_codes_in e.sent
then-waiting (Ended code) e = refl
then-waiting Preface e = of-first-part e.sent (send_pending e.state).sent (of-pending e.state)
then-waiting Settings e = of-first-part e.sent (send_pending e.state).sent (of-pending e.state)
then-waiting Running e = of-first-part e.sent (send_pending e.state).sent (of-pending e.state)

pub step-has-code : (s : State) (item : Item) → error_codes_in (step s item).sent ≡ error_codes_of (cause_of s item)
unfolding step effect cause_of
step-has-code s item = then-waiting (effect s item).state.core.phase (effect s item) ∙ of-effect s (item_effect s item)
