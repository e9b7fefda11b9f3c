-- How a stream's share is cut into DATA (RFC 9113, 4.2, 6.1 and 6.9), stated of the frames by their places.
use Rattle.std.specs.Prelude.{◌≡◌, ℕ, ◌+◌, ◌<◌, ◌≤◌, Bool, List, ◌++◌, length, flat_map, slice_get, ◌==◌, Some}
use Rattle.h2_spec.specs.declared.streams.Stream.{Stream}
use Rattle.h2_spec.specs.Frames.FrameType.{DATA, END_STREAM}
use Rattle.h2_spec.specs.Frames.Frame.{Frame}
use Rattle.h2_spec.specs.Stream.{octets_waiting}
use Rattle.h2_spec.specs.Requests.Answer.{Entry, picked}
use Rattle.h2_spec.specs.Change.{flag_if}
use Rattle.h2_spec.specs.SendPending.{allowance_frames}

-- frames are octets of a stream, cut into DATA by this size, of which the last ends the stream or does not
pub record IsCut (id size : ℕ) (ends : Bool) (octets : List ℕ) (frames : List Frame) : Type 0 where
  -- each is DATA on the stream
  pub data_on : (place : ℕ) (f : Frame) → slice_get frames place ≡ Some f → (f.kind ≡ DATA) × (f.stream ≡ id)
  -- each but the last is of the frame size, without END_STREAM
  pub full : (place : ℕ) (f : Frame) → slice_get frames place ≡ Some f → place + 1 < length frames → (length f.payload ≡ size) × (f.flags ≡ 0)
  -- the last has an octet or more, up to the frame size, and END_STREAM where it ends the stream
  pub last : (place : ℕ) (f : Frame) → slice_get frames place ≡ Some f → place + 1 ≡ length frames → (1 ≤ length f.payload) × (length f.payload ≤ size) × (f.flags ≡ flag_if ends END_STREAM)
  -- their payloads joined are the octets
  pub joined : flat_map (λ (f : Frame). f.payload) frames ≡ octets

-- octets are the next n of a body of which some wait: those after them wait on
pub record IsNext (body : List ℕ) (waiting n : ℕ) (octets : List ℕ) : Type 0 where
  pub before : List ℕ
  pub behind : List ℕ
  pub parts : body ≡ before ++ (octets ++ behind)
  pub count : length octets ≡ n
  pub left : length octets + length behind ≡ waiting

-- a stream's share of n octets is the next n of its answer's body, cut into DATA of the frame size; END_STREAM is
-- there exactly where these are all that wait; and only these frames are that
pub record CutsAllowance (book : List Entry) (size n : ℕ) (st : Stream) : Type 0 where
  pub octets : List ℕ
  pub next : IsNext (picked book st.pick).body (octets_waiting st) n octets
  pub cut : IsCut st.id size (octets_waiting st == n) octets (allowance_frames book size n st)
  pub only : (frames : List Frame) → IsCut st.id size (octets_waiting st == n) octets frames → frames ≡ allowance_frames book size n st
