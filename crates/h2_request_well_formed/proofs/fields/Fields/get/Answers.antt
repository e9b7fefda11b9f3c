use Rattle.std.proofs.Common.{Some, length, slice_get, option_map, refl, ap, ◌∙◌, sym}
use Rattle.std.proofs.lemmas.Option.{slice_get_read, slice_get_past}
use Rattle.h2_spec.specs.Hpack.Field.{field}
use Rattle.h2_table.specs.Lent.{field_lent}
use Rattle.h2_request_well_formed.specs.Fields.{fields_in}
use Rattle.h2_request_well_formed.proofs.fields.Fields.get.Goals as goal

pub returns-in-Block-clause-field : goal.returns-in-Block-clause-field
returns-in-Block-clause-field g c = c.lent.ensures.field ∙ ap (λ x. slice_get (fields_in x) c.args.place) (sym c.in-Block.is)

pub returns-in_ok-field-in-Slice-clause-field : goal.returns-in_ok-field-in-Slice-clause-field
returns-in_ok-field-in-Slice-clause-field g c =
    let fields = c.in-Slice.fields.now in
    let found = c.in_ok-field-in-Slice.ensures.lookup in
    let there = slice_get_read fields (length fields) c.args.place c.in_ok-field-in-Slice.field.now refl found.3.0 found.1 in
    let name = ap (λ n. field n c.as_slice-in-Slice.result.now) c.as_slice.ensures in
    let value = ap (λ v. field c.field.inside.name v) c.as_slice-in-Slice.ensures in
    ap Some (c.lend.ensures.field ∙ name ∙ value ∙ c.field.view_is) ∙ sym there ∙ ap (λ x. slice_get (fields_in x) c.args.place) (sym c.in-Slice.is)

pub returns-in_err-field-in-Slice-clause-field : goal.returns-in_err-field-in-Slice-clause-field
returns-in_err-field-in-Slice-clause-field g c =
    let past = slice_get_past c.in-Slice.fields.now c.args.place c.in_err-field-in-Slice.ensures.lookup.3 in
    ap (option_map field_lent) c.from_residual.ensures ∙ sym past ∙ ap (λ x. slice_get (fields_in x) c.args.place) (sym c.in-Slice.is)
