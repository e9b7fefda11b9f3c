use Rattle.std.proofs.Common.{◌≡◌, ◌∙◌, ◌+◌, Bool, true, false, List, ◌∷◌, codes, drop, if◌then◌else◌, ap, sym}
use Rattle.std.specs.Str.{bytes_eq}
use Rattle.h2_spec.specs.Hpack.Field.{Field, field}
use Rattle.h2_cmd_judge.specs.ServerFrames.{status_number, status_of}
use Rattle.h2_cmd_judge.proofs.ListLaws.{drop-at}
use Rattle.h2_cmd_judge.proofs.frames.status_of.Goals as goal

-- the status by whether the first field is :status
by-first : (f : Field) (fs : List Field) (is_status : Bool) → bytes_eq f.name (codes ":status") ≡ is_status → status_of (f ∷ fs) ≡ if is_status then status_number f.value else status_of fs
by-first f fs is_status e = ap (λ (b : Bool). if b then status_number f.value else status_of fs) e

pub returns-then-eq : goal.returns-then-eq
returns-then-eq c =
    let fields = c.args.fields.now.fields in
    let f = field c.in_ok-name.name.now c.in_ok-name.value.now in
    let rest = drop (c.loop-place.place + 1) fields in
    c.status_number.ensures ∙ sym (by-first f rest true (ap (bytes_eq f.name) (sym c.as_slice.ensures) ∙ sym c.if-eq.ensures))
    ∙ ap status_of (sym (drop-at c.loop-place.place fields f (sym c.in_ok-name.ensures))) ∙ c.loop-place.invariant

pub loop-place-preserved : goal.loop-place-preserved
loop-place-preserved c =
    let fields = c.args.fields.now.fields in
    let f = field c.in_ok-name.name.now c.in_ok-name.value.now in
    let rest = drop (c.loop-place.place + 1) fields in
    sym (by-first f rest false (ap (bytes_eq f.name) (sym c.as_slice.ensures) ∙ sym c.if-eq.ensures))
    ∙ ap status_of (sym (drop-at c.loop-place.place fields f (sym c.in_ok-name.ensures))) ∙ c.loop-place.invariant
