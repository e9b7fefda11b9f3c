use Rattle.std.proofs.Common.{◌≡◌, ◌++◌, ◌∷◌, [], false, List, ℕ, append_assoc, ap, ◌∙◌}
use Rattle.std.proofs.lemmas.Result.{IfOk-equal}
use Rattle.h2_spec.specs.Requests.Answer.{plain_literal}
use Rattle.h2_spec.specs.Hpack.Field.{Field, field}
use Rattle.h2_spec.specs.Hpack.Instruction.{spell, spell_string}
use Rattle.h2_hpack_instruction.proofs.response.write_field.Goals as goal

-- a first octet, the name and the value are the field's spelling
spelled : (out name value : List ℕ) → ((out ++ 0 ∷ []) ++ spell_string false name) ++ spell_string false value ≡ out ++ spell (plain_literal (field name value))
unfolding spell
spelled out name value =
    append_assoc (out ++ 0 ∷ []) (spell_string false name) (spell_string false value) ∙ append_assoc out (0 ∷ []) (spell_string false name ++ spell_string false value)

pub returns : goal.returns
returns g c =
    let out = c.args.block.now.items in
    let name = c.as_slice.result.now in
    let value = c.as_slice-2.result.now in
    let written = c.in_ok-write_plain.ensures.ok ∙ ap (λ (x : List ℕ). x ++ spell_string false name) c.in_ok-push.ensures.items in
    let is = ap (λ n. out ++ spell (plain_literal (field n value))) c.as_slice.ensures ∙ ap (λ v. out ++ spell (plain_literal (field c.field.inside.name v))) c.as_slice-2.ensures ∙ ap (λ (f : Field). out ++ spell (plain_literal f)) c.field.view_is in
    record { ok = IfOk-equal c.write_plain-2.result _ _ _ c.write_plain-2.ensures.ok (ap (λ (x : List ℕ). x ++ spell_string false value) written ∙ spelled out name value ∙ is) }
