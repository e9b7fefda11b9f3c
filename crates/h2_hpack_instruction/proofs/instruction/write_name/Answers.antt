use Rattle.std.proofs.Common.{[], ◌∷◌, ◌++◌, append_assoc, arith, take, ap, sym, ◌∙◌}
use Rattle.std.proofs.lemmas.Result.{IfOk-equal, IfOk-from_err}
use Rattle.std.proofs.lemmas.List.{take_all}
use Rattle.std.specs.Vec.{vec_len}
use Rattle.h2_spec.specs.Hpack.Instruction.{coded, coded_name, mode_prefix, spell_name, spell_string}
use Rattle.h2_hpack_instruction.specs.Instructions.{name_text_of}
use Rattle.h2_hpack_instruction.specs.Shapes.{mode_of}
use Rattle.h2_spec.specs.Hpack.Integer.{spell_int}
use Rattle.h2_hpack_instruction.proofs.Appending.{before-call, before-two}
use Rattle.h2_hpack_instruction.proofs.instruction.write_name.Goals as goal

pub returns-in-Ref-clause-kept : goal.returns-in-Ref-clause-kept
returns-in-Ref-clause-kept g c =
    before-call c.write_int.result c.args.out.now (spell_int c.prefix.result c.high.result c.in-Ref.index) c.write_int.new.out.items c.write_int.ensures.ok c.write_int.ensures.err

pub returns-in_ok-push-in-Text-clause-kept : goal.returns-in_ok-push-in-Text-clause-kept
returns-in_ok-push-in-Text-clause-kept g c =
    before-two c.args.out.now c.push.new.self (c.high-in-Text.result ∷ []) c.write_text.new.out.items c.in_ok-push-in-Text.ensures.items c.write_text.ensures.kept

pub returns-in_err-push-in-Text-clause-ok : goal.returns-in_err-push-in-Text-clause-ok
returns-in_err-push-in-Text-clause-ok g c = IfOk-from_err c.from_residual.result _ c.from_residual.ensures.0

pub returns-in_err-push-in-Text-clause-kept : goal.returns-in_err-push-in-Text-clause-kept
returns-in_err-push-in-Text-clause-kept g c =
    let out = c.args.out.now in
    ap (take (vec_len out)) c.in_err-push-in-Text.ensures.items ∙ take_all (vec_len out) out.items (omega (arith, out.ok.0))

pub returns-in-Ref-clause-ok : goal.returns-in-Ref-clause-ok
returns-in-Ref-clause-ok g c =
    let mode = mode_of c.args.mode in
    let spelled = ap (λ n. spell_int n c.high.result c.in-Ref.index) c.prefix.ensures ∙ ap (λ n. spell_int (mode_prefix mode) n c.in-Ref.index) c.high.ensures in
    IfOk-equal c.write_int.result _ _ _ c.write_int.ensures.ok (ap (λ s. c.args.out.now.items ++ s) (spelled ∙ ap (λ n. spell_name mode (coded_name (name_text_of n))) (sym c.in-Ref.is)))

pub returns-in_ok-push-in-Text-clause-ok : goal.returns-in_ok-push-in-Text-clause-ok
returns-in_ok-push-in-Text-clause-ok g c =
    let mode = mode_of c.args.mode in
    let out = c.args.out.now.items in
    let text = spell_string c.in-Text.text.huffman (coded c.in-Text.text.huffman c.in-Text.text.text) in
    let pushed = ap (λ x. x ++ text) c.in_ok-push-in-Text.ensures.items ∙ append_assoc out (c.high-in-Text.result ∷ []) text in
    IfOk-equal c.write_text.result _ _ _ c.write_text.ensures.ok
    (pushed ∙ ap (λ n. out ++ n ∷ text) c.high-in-Text.ensures ∙ ap (λ n. out ++ spell_name mode (coded_name (name_text_of n))) (sym c.in-Text.is))
