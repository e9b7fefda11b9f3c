use Rattle.std.proofs.Common.{◌≡◌, length}
use Rattle.h2_explain_item.specs.FieldFacts.{is_trailers_alone}
use Rattle.h2_explain_item.proofs.diagnosis.field_facts.is_trailers_alone.Given as goal

abbrev pub invariant-members : goal.invariant-members
invariant-members l = is_trailers_alone l.list ≡ is_trailers_alone l.rest

abbrev pub decreases-members : goal.decreases-members
decreases-members l = length l.rest
