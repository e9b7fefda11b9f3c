use Rattle.std.proofs.Common.{◌∙◌, arith}
use Rattle.h2_explain_item.proofs.FieldLaws.{facts-next}
use Rattle.h2_explain_item.proofs.diagnosis.field_facts.field_facts.Goals as goal

pub loop-place-preserved : goal.loop-place-preserved
loop-place-preserved g c =
    c.facts_with-facts.ensures ∙ facts-next c.args.fields.now.fields c.loop-place.place c.loop-place.facts _ c.loop-place.invariant (omega (arith, c.loop-place-test.true, c.len-place-end.ensures)) c.get.ensures
