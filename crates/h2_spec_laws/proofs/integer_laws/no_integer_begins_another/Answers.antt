use Rattle.h2_spec.proofs.IntegerLaws.{one_int}
use Rattle.h2_spec_laws.proofs.integer_laws.no_integer_begins_another.Goals as goal

pub returns : goal.returns
returns c = one_int
