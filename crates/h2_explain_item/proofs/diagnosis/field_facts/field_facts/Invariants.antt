use Rattle.std.proofs.Common.{◌≡◌, take}
use Rattle.h2_explain_item.specs.FieldFacts.{field_facts}
use Rattle.h2_explain_item.proofs.diagnosis.field_facts.field_facts.Given as goal

abbrev pub invariant-loop-place : goal.invariant-loop-place
invariant-loop-place g l = l.facts ≡ field_facts (take l.place l.fields.fields)
