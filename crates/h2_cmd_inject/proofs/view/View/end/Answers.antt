use Rattle.std.proofs.Common.{◌≡◌, ◌∙◌, ◌++◌, ℕ, List, ap, length}
use Rattle.std.proofs.lemmas.Result.{on_ok_weaker}
use Rattle.std.specs.String.{string_bytes}
use Rattle.h2_explain_text.specs.declared.rest.InputRest.{InputRest}
use Rattle.h2_cmd_inject.proofs.ViewLaws.{end-json, end-text}
use Rattle.h2_cmd_inject.specs.Views.{viewing_of}
use Rattle.h2_cmd_inject.proofs.view.View.end.Goals as goal

pub returns-then-form : goal.returns-then-form
returns-then-form c =
    let v = c.args.self.now in
    let octets : c.rest_of.result.octets ≡ length c.args.octets.now = ap (λ (r : InputRest). r.octets) c.rest_of.ensures in
    let items : c.rest_of.result.items ≡ v.items = ap (λ (r : InputRest). r.items) c.rest_of.ensures in
    end-json c.args.form v.opening (viewing_of v) (length c.args.octets.now) (string_bytes c.in_ok-text.text) c.args.out.now.items c.extend_from_slice.new.self.items
    c.if-form.true (rw (octets, items) at c.in_ok-text.ensures) (c.in_ok-extend_from_slice.ensures.items ∙ ap (λ (k : List ℕ). c.args.out.now.items ++ k) c.as_bytes.ensures.value)

pub returns : goal.returns
returns c =
    let v = c.args.self.now in
    let octets : c.rest_of.result.octets ≡ length c.args.octets.now = ap (λ (r : InputRest). r.octets) c.rest_of.ensures in
    let items : c.rest_of.result.items ≡ v.items = ap (λ (r : InputRest). r.items) c.rest_of.ensures in
    on_ok_weaker c.put_opening_parts.result
    (end-text c.args.form v.opening (viewing_of v) (length c.args.octets.now) (string_bytes c.in_ok-text.text) c.args.out.now.items c.extend_from_slice.new.self.items
    c.put_opening_parts.new.out.items c.if-form.false (rw (octets, items) at c.in_ok-text.ensures)
    (c.in_ok-extend_from_slice.ensures.items ∙ ap (λ (k : List ℕ). c.args.out.now.items ++ k) c.as_bytes.ensures.value))
    c.put_opening_parts.ensures
