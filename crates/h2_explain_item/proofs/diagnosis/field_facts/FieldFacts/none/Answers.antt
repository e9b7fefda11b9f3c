use Rattle.std.proofs.Common.{refl}
use Rattle.h2_explain_item.specs.FieldFacts.{field_facts}
use Rattle.h2_explain_item.proofs.diagnosis.field_facts.FieldFacts.none.Goals as goal

pub returns : goal.returns
unfolding field_facts
returns c = refl
