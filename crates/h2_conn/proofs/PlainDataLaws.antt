-- DATA without padding: all of its payload is content, so of the payload its length alone matters.
use Rattle.std.proofs.Common.{◌≡◌, ℕ, ◌-◌, Bool, false, List, [], length, drop, Option, None, Result, Ok, refl, ap, ◌∙◌, arith, le-ltb}
use Rattle.std.specs.Prelude.{◌==◌}
use Rattle.std.proofs.lemmas.List.{drop_all, take_all}
use Rattle.h2_spec.specs.declared.causes.Cause.{Cause}
use Rattle.h2_spec.specs.declared.frames.Head.{Head}
use Rattle.h2_spec.specs.declared.reactions.ReceivedData.{ReceivedData}
use Rattle.h2_spec.specs.Checks.{refusal}
use Rattle.h2_spec.specs.Effect.{block_stream, body_length, checked_effect, concluded, effect, on_data, part_effect}
use Rattle.h2_spec.specs.Frames.Frame.{WholeFrame}
use Rattle.h2_spec.specs.Frames.FrameType.{DATA, END_STREAM, PADDED, has}
use Rattle.h2_spec.specs.Requests.Headers.{makes}
use Rattle.h2_spec.specs.Frames.Payload.{OfData, Part, data_part, part_as, part_of}
use Rattle.h2_spec.specs.State.{State}
use Rattle.h2_spec.specs.Stream.{stream_at}
use Rattle.h2_frame.specs.Rest.{Rest}
use Rattle.h2_conn.specs.Blocks.{IsStopped}
use Rattle.h2_conn.proofs.InsideLaws.{no-block}

-- what such a payload holds
plain-data : (flags : ℕ) (p : List ℕ) → has flags PADDED ≡ false → data_part flags p ≡ Ok (record { pad = None; content = p; padding = [] })
unfolding data_part
plain-data flags p plain =
    rw (plain, le-ltb (length p) 0 (omega arith), take_all (length p - 0 - 0) (drop 0 p) (omega arith), drop_all (length p - 0) p (omega arith)) refl

plain-part : (h : Head) (p : List ℕ) → h.kind ≡ DATA → has h.flags PADDED ≡ false → part_of h p ≡ Ok (OfData (record { pad = None; content = p; padding = [] }))
unfolding part_as
plain-part h p kind plain = rw (kind, plain-data h.flags p plain) refl

-- what it does
pub plain-effect : (s : State) (h : Head) (p : List ℕ) → refusal (block_stream s.block) s.core.phase h ≡ None → h.kind ≡ DATA → has h.flags PADDED ≡ false → length p ≡ h.length →
    (let st = stream_at s.core.last s.streams h.stream in effect s (WholeFrame h p) ≡ concluded s (makes s (on_data s.config s.core (body_length s.book st) (record { octets = h.length; content = h.length; ends = has h.flags END_STREAM }) st)))
unfolding effect
plain-effect s h p passed kind plain count =
    let st = stream_at s.core.last s.streams h.stream in
    ap (λ (r : Option Cause). concluded s (checked_effect s h p r)) passed ∙ ap (λ (r : Result Part Cause). concluded s (part_effect s h p r)) (plain-part h p kind plain)
    ∙ ap (λ (n : ℕ). concluded s (makes s (on_data s.config s.core (body_length s.book st) (let d : ReceivedData = record { octets = n; content = n; ends = has h.flags END_STREAM } in d) st))) count

-- it passes the checks only where no block is open
pub plain-outside : (s : State) (h : Head) → refusal (block_stream s.block) s.core.phase h ≡ None → h.kind ≡ DATA → IsStopped s.block
plain-outside s h passed kind = no-block s.block s.core.phase h passed (ap (λ (k : ℕ). k == 9) kind)

-- ---- what was held of the frame is forgotten

pub forgotten : (r : Rest) → r.is_over ≡ false → r.expects_preface ≡ false → record r { octets = [] } ≡ record { octets = []; expects_preface = false; is_over = false }
forgotten r going past =
    ap (λ (p : Bool). let left : Rest = record { octets = []; expects_preface = p; is_over = r.is_over } in left) past ∙ ap (λ (o : Bool). let left : Rest = record { octets = []; expects_preface = false; is_over = o } in left) going
