-- A frame that was made for stream 0, on another stream, and the HEADERS of an answer.
use Rattle.std.proofs.Common.{◌≡◌, ℕ, ◌<◌, ◌≤◌, ◌-◌, ◌^◌, ◌∙◌, Bool, true, false, List, ◌∷◌, length, take, drop, refl, sym, ap, subst, arith}
use Rattle.std.proofs.lemmas.Bool.Decides.{nat_tests}
use Rattle.std.proofs.lemmas.List.{append-nil}
use Rattle.std.proofs.Math.Seq.{take-length}
use Rattle.std.specs.Prelude.{◌==◌, slice_index}
use Rattle.h2_spec.specs.Requests.Answer.{Answer, response_block}
use Rattle.h2_spec.specs.Change.{response}
use Rattle.h2_spec.specs.Hpack.Field.{Field}
use Rattle.h2_spec.specs.Frames.Frame.{Frame, frame, frame_octets, frames_octets}
use Rattle.h2_spec.specs.SendPending.{data_frames, piece}
use Rattle.h2_request_book.specs.Lent.{block_of_answer, headers_of_answer}
use Rattle.h2_spec.specs.Short.{IsShortFrame}
use Rattle.h2_conn_send.specs.Prepared.{content, on_stream, IsData}
use Rattle.h2_conn_send.proofs.PiecesLaws.{piece_last}

-- it is the frame on that stream
pub frame-on_stream : (kind flags stream id : ℕ) (p : List ℕ) → on_stream id (frame_octets (frame kind flags stream p)) ≡ frame_octets (frame kind flags id p)
unfolding frame_octets
frame-on_stream kind flags stream id p = refl

-- a frame has its head
pub head-length : (f : Frame) → 9 ≤ length (frame_octets f)
unfolding frame_octets
head-length f = omega arith

pub head-flags : (f : Frame) → slice_index (frame_octets f) 4 ≡ f.flags
unfolding frame_octets
head-flags f = refl

-- the HEADERS of an answer, made for stream 0, on another stream
pub headers-on_stream : (id : ℕ) (a : Answer) → on_stream id (headers_of_answer a) ≡ frame_octets (response false id a)
headers-on_stream id a = let h = response false 0 a in frame-on_stream h.kind h.flags 0 id h.payload

-- a table size update is one octet in front of a response's field block
block-behind-update : (status : ℕ) (fields : List Field) → 32 ∷ response_block false status fields ≡ response_block true status fields
unfolding response_block
block-behind-update status fields = refl

-- the same HEADERS with a table size update
pub updated-response : (id flags : ℕ) (block : List ℕ) (a : Answer) → flags ≡ (response false 0 a).flags → block ≡ block_of_answer a →
    frame_octets (frame 1 flags id (32 ∷ block)) ≡ frame_octets (response true id a)
updated-response id flags block a same is =
    let k = (response false 0 a).flags in
    ap (λ (f : ℕ). frame_octets (frame 1 f id (32 ∷ block))) same
    ∙ ap (λ (b : List ℕ). frame_octets (frame 1 k id (32 ∷ b))) is
    ∙ ap (λ (p : List ℕ). frame_octets (frame 1 k id p)) (block-behind-update a.status a.fields)

pub short-response : (pending : Bool) (id : ℕ) (a : Answer) → length (block_of_answer a) ≤ 16383 → IsShortFrame (response pending id a)
short-response false id a h = omega arith
short-response true id a h = subst (λ (p : List ℕ). length p < 2 ^ 24) (block-behind-update a.status a.fields) (omega arith)

-- ---- a body that is one DATA

pub content-data : (body : List ℕ) → content (frame_octets (piece 0 true body)) ≡ body
unfolding frame_octets
content-data body = refl

pub data-made : (body : List ℕ) → IsData (frame_octets (piece 0 true body))
unfolding frame_octets
data-made body = refl

pub data-length : (prepared : List ℕ) → IsData prepared → 9 ≤ length prepared
data-length prepared made = subst (λ (xs : List ℕ). 9 ≤ length xs) (sym made) (head-length (piece 0 true (content prepared)))

pub data-on_stream : (id : ℕ) (prepared : List ℕ) → IsData prepared → on_stream id prepared ≡ frame_octets (piece id true (content prepared))
data-on_stream id prepared made = ap (on_stream id) made ∙ frame-on_stream 0 1 0 id (content prepared)

-- a share that is a whole body, and no longer than a frame may be
pub whole-body : (id size left n : ℕ) (body : List ℕ) → 0 < n → n ≡ length body → n ≤ left → left ≤ length body → length body ≤ size →
    frames_octets (data_frames id (left == n) size (take n (drop (length body - left) body))) ≡ frame_octets (piece id true body)
whole-body id size left n body some is waits within fits =
    let same : left ≡ n = omega arith in
    let none : length body - left ≡ 0 = omega arith in
    let ends : (left == n) ≡ true = grind (arith, nat_tests) in
    ap (λ (t : Bool). frames_octets (data_frames id t size (take n (drop (length body - left) body)))) ends
    ∙ ap (λ (k : ℕ). frames_octets (data_frames id true size (take n (drop k body)))) none
    ∙ ap (λ (k : ℕ). frames_octets (data_frames id true size (take k body))) is
    ∙ ap (λ (xs : List ℕ). frames_octets (data_frames id true size xs)) (take-length body)
    ∙ ap frames_octets (piece_last id true size body (omega arith) fits)
    ∙ append-nil (frame_octets (piece id true body))
