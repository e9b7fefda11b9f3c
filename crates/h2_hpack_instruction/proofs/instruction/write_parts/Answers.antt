use Rattle.std.proofs.Common.{◌++◌, List, ℕ, append_assoc, ap, sym, ◌∙◌}
use Rattle.std.proofs.lemmas.Result.{IfOk-equal}
use Rattle.h2_spec.specs.Hpack.Instruction.{coded, coded_name, shape_of, spell, spell_name, spell_string}
use Rattle.h2_spec.specs.Hpack.Integer.{spell_int}
use Rattle.h2_hpack_instruction.specs.Instructions.{instr_of, name_text_of}
use Rattle.h2_hpack_instruction.specs.Shapes.{mode_of}
use Rattle.h2_hpack_instruction.proofs.Appending.{before-call, before-two}
use Rattle.h2_hpack_instruction.proofs.instruction.write_parts.Goals as goal

pub returns-in-Update-clause-kept : goal.returns-in-Update-clause-kept
returns-in-Update-clause-kept g c =
    let w = c.write_int-in-Update in
    before-call w.result c.args.out.now (spell_int 5 32 c.in-Update.max) w.new.out.items w.ensures.ok w.ensures.err

pub returns-in-Indexed-clause-kept : goal.returns-in-Indexed-clause-kept
returns-in-Indexed-clause-kept g c =
    let w = c.write_int in
    before-call w.result c.args.out.now (spell_int 7 128 c.in-Indexed.index) w.new.out.items w.ensures.ok w.ensures.err

pub returns-in_ok-write_name-in-Literal-clause-kept : goal.returns-in_ok-write_name-in-Literal-clause-kept
returns-in_ok-write_name-in-Literal-clause-kept g c =
    let name = spell_name (mode_of c.in-Literal.mode) (coded_name (name_text_of c.in-Literal.name)) in
    before-two c.args.out.now c.write_name.new.out name c.write_text.new.out.items c.in_ok-write_name-in-Literal.ensures.ok c.write_text.ensures.kept

pub returns-in-Indexed-clause-ok : goal.returns-in-Indexed-clause-ok
unfolding spell
returns-in-Indexed-clause-ok g c =
    IfOk-equal c.write_int.result _ _ _ c.write_int.ensures.ok (ap (λ i. c.args.out.now.items ++ spell (shape_of (instr_of i))) (sym c.in-Indexed.is))

pub returns-in-Update-clause-ok : goal.returns-in-Update-clause-ok
unfolding spell
returns-in-Update-clause-ok g c =
    let w = c.write_int-in-Update in
    IfOk-equal w.result _ _ _ w.ensures.ok (ap (λ i. c.args.out.now.items ++ spell (shape_of (instr_of i))) (sym c.in-Update.is))

pub returns-in_ok-write_name-in-Literal-clause-ok : goal.returns-in_ok-write_name-in-Literal-clause-ok
unfolding spell
returns-in_ok-write_name-in-Literal-clause-ok g c =
    let out = c.args.out.now.items in
    let name = spell_name (mode_of c.in-Literal.mode) (coded_name (name_text_of c.in-Literal.name)) in
    let value = spell_string c.in-Literal.value.huffman (coded c.in-Literal.value.huffman c.in-Literal.value.text) in
    let written = ap (λ (x : List ℕ). x ++ value) c.in_ok-write_name-in-Literal.ensures.ok ∙ append_assoc out name value in
    IfOk-equal c.write_text.result _ _ _ c.write_text.ensures.ok (written ∙ ap (λ i. out ++ spell (shape_of (instr_of i))) (sym c.in-Literal.is))
