-- The frames that a book has ready: the field block and the body are after the nine octets of their heads.
use Rattle.std.proofs.Common.{◌≡◌, ◌≤◌, ◌∙◌, ℕ, Bool, true, List, length, drop, refl, sym, ap, subst, arith}
use Rattle.h2_spec.specs.Requests.Answer.{Answer}
use Rattle.h2_spec.specs.Hpack.Field.{Field}
use Rattle.h2_spec.specs.Frames.Frame.{frame_octets}
use Rattle.h2_spec.specs.SendPending.{piece}
use Rattle.h2_request_book.specs.Lent.{AreFramesOf, block_of_answer, body_frame_of_answer, headers_of_answer}

pub block-in-headers : (a : Answer) → drop 9 (headers_of_answer a) ≡ block_of_answer a
unfolding frame_octets
block-in-headers a = refl

pub headers-length : (a : Answer) → 9 ≤ length (headers_of_answer a)
unfolding frame_octets
headers-length a = omega arith

pub body-in-frame : (a : Answer) → drop 9 (body_frame_of_answer a) ≡ a.body
unfolding frame_octets
body-in-frame a = refl

pub body_frame-length : (body octets : List ℕ) → octets ≡ frame_octets (piece 0 true body) → 9 ≤ length octets
unfolding frame_octets
body_frame-length body octets is = subst (λ (xs : List ℕ). 9 ≤ length xs) (sym is) (omega arith)

-- octets that are frames of an answer are those of the answer with the body that they hold
pub frames-again : (a : Answer) (status : ℕ) (fields : List Field) (body first second : List ℕ) (early : Bool) → AreFramesOf a first second → record { status = status; fields = fields; body = body; early = early } ≡ a →
    record { status = status; fields = fields; body = drop 9 second; early = early } ≡ a
frames-again a status fields body first second early made is =
    let held : drop 9 second ≡ body = ap (drop 9) made.body_frame ∙ body-in-frame a ∙ sym (ap (λ (x : Answer). x.body) is) in
    ap (λ (b : List ℕ). let x : Answer = record { status = status; fields = fields; body = b; early = early } in x) held ∙ is
