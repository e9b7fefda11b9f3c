use Rattle.std.proofs.Common.{◌∙◌, sym, refl, arith}
use Rattle.std.proofs.lemmas.List.{length-drop}
use Rattle.std.proofs.lemmas.Result.{IfOk-from_err}
use Rattle.h2_spec.specs.Texts.Script.{Preface}
use Rattle.h2_spec.specs.Texts.Written.{frame_said}
use Rattle.h2_script.proofs.Written.{frame_short, head_nine, next_frame, next_none, next_preface, payload_long, preface_long}
use Rattle.h2_script.proofs.disassembler.push_next.Goals as goal

pub returns-then-begins_with_preface-clause-next : goal.returns-then-begins_with_preface-clause-next
returns-then-begins_with_preface-clause-next g c =
    (Preface, next_preface c.args.first c.args.octets.now (sym c.begins_with_preface.ensures ∙ c.if-begins_with_preface.true), c.in_ok-push_str.ensures.bytes)

pub returns-in_default-clause-next : goal.returns-in_default-clause-next
returns-in_default-clause-next g c =
    (next_none c.args.first c.args.octets.now (sym c.begins_with_preface.ensures ∙ c.if-begins_with_preface.false) c.in_default.ensures, refl)

pub push_frame-requires : goal.push_frame-requires
push_frame-requires g c =
    let b = c.args.octets.now in
    let size = payload_long b c.in-Some.head c.in-Some.payload.now c.in-Some.ensures.1 c.in-Some.ensures.2 in
    omega (arith, size, frame_short b c.in-Some.head (λ i. let fits = c.type_inv.octets i in omega arith) c.in-Some.ensures.0)

pub returns-clause-next : goal.returns-clause-next
returns-clause-next g c =
    let b = c.args.octets.now in
    let none = sym c.begins_with_preface.ensures ∙ c.if-begins_with_preface.false in (
      frame_said c.in-Some.head c.in-Some.payload.now,
      next_frame c.args.first b c.in-Some.head c.in-Some.payload.now none c.in-Some.ensures.0 c.in-Some.ensures.1 c.in-Some.ensures.2,
      c.in_ok-push_frame.ensures,
    )

pub returns-clause-within : goal.returns-clause-within
returns-clause-within g c =
    let b = c.args.octets.now in
    let size = payload_long b c.in-Some.head c.in-Some.payload.now c.in-Some.ensures.1 c.in-Some.ensures.2 in
    omega (arith, size, c.in-Some.ensures.1, head_nine c.in-Some.head b c.in-Some.ensures.0, length-drop 9 b)

pub returns-in_err-push_str-clause-next : goal.returns-in_err-push_str-clause-next
returns-in_err-push_str-clause-next g c = IfOk-from_err c.from_residual.result _ c.from_residual.ensures.0

pub returns-in_err-push_str-clause-within : goal.returns-in_err-push_str-clause-within
returns-in_err-push_str-clause-within g c = IfOk-from_err c.from_residual.result _ c.from_residual.ensures.0

pub returns-in_err-push_frame-clause-next : goal.returns-in_err-push_frame-clause-next
returns-in_err-push_frame-clause-next g c = IfOk-from_err c.from_residual-in_err-push_frame.result _ c.from_residual-in_err-push_frame.ensures.0

pub returns-in_err-push_frame-clause-within : goal.returns-in_err-push_frame-clause-within
returns-in_err-push_frame-clause-within g c = IfOk-from_err c.from_residual-in_err-push_frame.result _ c.from_residual-in_err-push_frame.ensures.0

pub returns-then-begins_with_preface-clause-within : goal.returns-then-begins_with_preface-clause-within
returns-then-begins_with_preface-clause-within g c = preface_long c.args.first c.args.octets.now (sym c.begins_with_preface.ensures ∙ c.if-begins_with_preface.true)

pub overflow_add-result : goal.overflow_add-result
overflow_add-result g c =
    let b = c.args.octets.now in
    let size = payload_long b c.in-Some.head c.in-Some.payload.now c.in-Some.ensures.1 c.in-Some.ensures.2 in
    omega (arith, size, frame_short b c.in-Some.head (λ i. let fits = c.type_inv.octets i in omega arith) c.in-Some.ensures.0)
