-- Frames are read one after another.
use Rattle.std.proofs.Common.{◌≡◌, ℕ, zero, suc, ◌+◌, ◌-◌, ◌<◌, ap, refl, arith, Option, Some, None, ◌∙◌}
use Rattle.h2_explain_words.specs.Sent.{FirstFrame, first_frame}
use Rattle.h2_cmd_judge.specs.ServerFrames.{Progress, read_first, read_upto, with_frame, with_taken}

-- where no whole frame is there, nothing is read
pub read-none : (more after : ℕ) → (p : Progress) → first_frame p.rest ≡ None → read_upto more after p ≡ p
read-none zero after p none = refl
read-none (suc more) after p none = ap (λ (f : Option FirstFrame). read_first after p f (λ q. read_upto more after q)) none

-- a whole frame is read, and then those after it
pub read-some : (n place after : ℕ) → (p : Progress) → (f : FirstFrame) → place < n → first_frame p.rest ≡ Some f
    → read_upto (n - place) after p ≡ read_upto (n - (place + 1)) after (with_taken after p.events f.rest (with_frame p.frames f.head f.payload))
read-some n place after p f more some =
    let count : n - place ≡ suc (n - (place + 1)) = omega arith in
    ap (λ (k : ℕ). read_upto k after p) count ∙ ap (λ (g : Option FirstFrame). read_first after p g (λ q. read_upto (n - (place + 1)) after q)) some
