-- What goes to a client is cut frame by frame.
use Rattle.std.proofs.Common.{◌≡◌, ℕ, zero, suc, ◌+◌, ◌-◌, ◌<◌, List, ap, refl, arith, Option, Some, None, ◌∙◌}
use Rattle.h2_explain_words.specs.Sent.{FirstFrame, first_frame}
use Rattle.h2_cmd_dialogue.specs.Limits.{Limits, sent, sent_first, sent_frames}

-- where no whole frame is there, nothing changes
pub sent-none : (l : Limits) (more : ℕ) (b : List ℕ) → first_frame b ≡ None → sent_frames more l b ≡ l
sent-none l zero b none = refl
sent-none l (suc more) b none = ap (λ (f : Option FirstFrame). sent_first l f (sent_frames more)) none

-- a whole frame, and then those after it
pub sent-some : (l : Limits) (n place : ℕ) (b : List ℕ) (f : FirstFrame) → place < n → first_frame b ≡ Some f
    → sent_frames (n - place) l b ≡ sent_frames (n - (place + 1)) (sent l f.head f.payload) f.rest
sent-some l n place b f more some =
    let count : n - place ≡ suc (n - (place + 1)) = omega arith in
    ap (λ (k : ℕ). sent_frames k l b) count ∙ ap (λ (g : Option FirstFrame). sent_first l g (sent_frames (n - (place + 1)))) some
