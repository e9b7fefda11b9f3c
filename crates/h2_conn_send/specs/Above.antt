-- Sending from the streams above an identifier alone: how far sending in the order of the identifiers has got.
use Rattle.std.specs.Prelude.{◌≡◌, ◌≤◌, ◌%◌, true, ℕ, ◌-◌, List, [], ◌∷◌, ◌++◌, nat_lt, if◌then◌else◌}
use Rattle.h2_spec.specs.declared.streams.Stream.{Stream}
use Rattle.h2_spec.specs.Stream.{is_live, stream_at}
use Rattle.h2_spec.specs.Requests.Answer.{Entry}
use Rattle.h2_spec.specs.Frames.Frame.{Frame}
use Rattle.h2_spec.specs.SendPending.{allowance, allowance_frames, after_sending}

-- what a stream sends, if it is above this identifier
abbrev pub allowance_above : ℕ → ℕ → Stream → ℕ
allowance_above after window st = if nat_lt after st.id then allowance window st else 0

-- the frames that are sent
abbrev pub frames_above : List Entry → ℕ → ℕ → ℕ → List Stream → List Frame
frames_above book size after window [] = []
frames_above book size after window (st ∷ sts) = allowance_frames book size (allowance_above after window st) st ++ frames_above book size after (window - allowance_above after window st) sts

-- the records after it
abbrev pub streams_above : ℕ → ℕ → List Stream → List Stream
streams_above after window [] = []
streams_above after window (st ∷ sts) = after_sending (allowance_above after window st) st ∷ streams_above after (window - allowance_above after window st) sts

-- the rest of the connection's window
abbrev pub left_above : ℕ → ℕ → List Stream → ℕ
left_above after window [] = window
left_above after window (st ∷ sts) = left_above after (window - allowance_above after window st) sts

-- what is known of a stream that has octets to send
pub record IsWaiting (last : ℕ) (streams : List Stream) (st : Stream) : Type 0 where
  pub within : st.id ≤ last
  pub odd : st.id % 2 ≡ 1
  pub live : is_live st.kind ≡ true
  pub found : stream_at last streams st.id ≡ st
