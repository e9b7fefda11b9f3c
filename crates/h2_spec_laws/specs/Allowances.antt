-- How the streams share the connection's window (RFC 9113, 5.2.1 and 6.9.1).
use Rattle.std.specs.Prelude.{◌≡◌, ℕ, ◌+◌, ◌-◌, List, [], ◌∷◌, ◌++◌, length, min, zip, flat_map, slice_get, Some}
use Rattle.h2_spec.specs.declared.streams.Stream.{Stream}
use Rattle.h2_spec.specs.Window.{sendable}
use Rattle.h2_spec.specs.Stream.{octets_waiting}
use Rattle.h2_spec.specs.Requests.Answer.{Entry}
use Rattle.h2_spec.specs.SendPending.{allowance, allowance_frames, after_sending, sent_frames, all_after_sending, window_left}

-- the octets that each stream sends, in the order of the list
abbrev pub allowances : ℕ → List Stream → List ℕ
allowances window [] = []
allowances window (st ∷ sts) = allowance window st ∷ allowances (window - allowance window st) sts

-- the sum of shares
abbrev pub total : List ℕ → ℕ
total [] = 0
total (n ∷ ns) = n + total ns

-- a stream's share is the least of what it waits with, its own window, and the connection's window less the shares of
-- the streams before it
abbrev pub AllowanceIsLeast : ℕ → List Stream → Stream → List Stream → Type 0
AllowanceIsLeast window before st behind =
    slice_get (allowances window (before ++ st ∷ behind)) (length before) ≡ Some (min (min (octets_waiting st) (sendable st.numbers.send)) (window - total (allowances window before)))

-- what is sent are the shares, each stream's record is the one after its share, and the connection's window falls by
-- their sum
pub record SendsAllowances (book : List Entry) (size window : ℕ) (sts : List Stream) : Type 0 where
  pub frames : sent_frames book size window sts ≡ flat_map (λ (p : ℕ × Stream). allowance_frames book size p.0 p.1) (zip (allowances window sts) sts)
  pub records : all_after_sending window sts ≡ flat_map (λ (p : ℕ × Stream). after_sending p.0 p.1 ∷ []) (zip (allowances window sts) sts)
  pub left : window_left window sts ≡ window - total (allowances window sts)
