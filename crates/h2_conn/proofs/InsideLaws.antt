-- A frame that is no CONTINUATION passes the checks only where no block is open.
use Rattle.std.proofs.Common.{◌≡◌, ℕ, Bool, true, false, not, ◌&&◌, List, refl, sym, subst, arith, Option, Some, None, Result, Ok}
use Rattle.std.specs.Prelude.{◌==◌, if◌then◌else◌}
use Rattle.std.proofs.lemmas.Bool.Decides.{nat_tests}
use Rattle.h2_spec.specs.declared.connection.Phase.{Phase}
use Rattle.h2_spec.specs.declared.causes.Cause.{Cause}
use Rattle.h2_spec.specs.declared.causes.Cause.TheVariants.{BlockInterrupted}
use Rattle.h2_spec.specs.declared.frames.Head.{Head}
use Rattle.h2_spec.specs.Causes.Cause.{first_of}
use Rattle.h2_spec.specs.Checks.{early, interrupts, misplaced, refusal}
use Rattle.h2_spec.specs.Effect.{block_stream}
use Rattle.h2_spec.specs.Frames.FrameType.{frame_type}
use Rattle.h2_spec.specs.Frames.Payload.{Part, OfContinuation, part_as, part_of}
use Rattle.h2_spec.specs.State.{OpenBlock}
use Rattle.h2_frame.specs.Parts.{part_seen}
use Rattle.h2_frame.specs.declared.payload.Part as code
use Rattle.h2_frame.specs.declared.payload.Part.TheVariants as variants
use Rattle.h2_conn.specs.Blocks.{IsStopped}
use Rattle.h2_conn.specs.Parted.{IsNoContinuation}

-- what a payload holds is a fragment where the type is CONTINUATION
pub no-continuation : (kind flags : ℕ) (p : List ℕ) (part : Part) → (let r : Result Part Cause = Ok part in part_as (frame_type kind) flags p ≡ r) → (part ≡ OfContinuation p → ⊥) → (kind == 9) ≡ false
unfolding part_as
no-continuation kind flags p part e differs = at (kind == 9) refl
  where
    same : (x y : Part) → (let r : Result Part Cause = Ok x in r ≡ Ok y) → x ≡ y
    same x y h = cc

    nine : kind ≡ 9 → ⊥
    nine is = differs (sym (same (OfContinuation p) part (subst (λ (k : ℕ). (let r : Result Part Cause = Ok part in part_as (frame_type k) flags p ≡ r)) is e)))

    at : (t : Bool) → (kind == 9) ≡ t → (kind == 9) ≡ false
    at true is = absurd (nine (grind (arith, nat_tests, is)))
    at false is = is

-- only CONTINUATION comes inside a block
pub no-block : (b : Option OpenBlock) (phase : Phase) (h : Head) → refusal (block_stream b) phase h ≡ None → (h.kind == 9) ≡ false → IsStopped b
unfolding refusal interrupts early misplaced
no-block None phase h passed other = tt
no-block (Some b) phase h passed other = absurd (none (subst (λ (t : Bool). (if not (t && h.stream == b.shown.stream) then Some BlockInterrupted else refused) ≡ None) other passed))
  where
    refused : Option Cause
    refused = first_of (early phase h) (misplaced h)

    none : (let r : Option Cause = Some BlockInterrupted in r ≡ None) → ⊥
    none e = cc

-- such a part is no CONTINUATION
part-other : (part : code.Part) (p : List ℕ) → IsNoContinuation part → part_seen part ≡ OfContinuation p → ⊥
part-other (variants.Data d) p h e = cc
part-other (variants.Headers d) p h e = cc
part-other variants.Priority p h e = cc
part-other (variants.RstStream code) p h e = cc
part-other (variants.Settings s) p h e = cc
part-other variants.SettingsAck p h e = cc
part-other variants.PushPromise p h e = cc
part-other (variants.Ping octets) p h e = cc
part-other (variants.Goaway last code) p h e = cc
part-other (variants.WindowUpdate increment) p h e = cc
part-other (variants.Continuation fragment) p h e = h
part-other variants.Unknown p h e = cc

-- so no block is open where such a frame passes the checks
pub part-outside : (b : Option OpenBlock) (phase : Phase) (h : Head) (p : List ℕ) (part : code.Part) → refusal (block_stream b) phase h ≡ None →
    (let r : Result Part Cause = Ok (part_seen part) in part_of h p ≡ r) → IsNoContinuation part → IsStopped b
part-outside b phase h p part passed is other = no-block b phase h passed (no-continuation h.kind h.flags p (part_seen part) is (part-other part p other))
