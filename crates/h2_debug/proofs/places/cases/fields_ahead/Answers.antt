use Rattle.std.proofs.Common.{◌∙◌, ap, sym}
use Rattle.h2_explain_item.specs.FieldFacts.{field_facts}
use Rattle.h2_debug.proofs.CaseLaws.{shows-some}
use Rattle.h2_debug.proofs.places.cases.fields_ahead.Goals as goal

pub returns : goal.returns
returns g c = λ some.
    let shows = rw c.in_ok-copy.ensures.same at c.in_ok-take_and_lend.ensures.fields in
    c.field_facts.ensures ∙ ap field_facts (c.fields.ensures ∙ sym (shows-some _ _ some shows))
