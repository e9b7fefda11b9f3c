use Rattle.h2_spec_laws.proofs.FlowLaws.{given_back-and-still_owed, still_owed-below}
use Rattle.h2_spec_laws.proofs.flow_laws.credit_is_not_lost.Goals as goal

pub returns-clause-sum : goal.returns-clause-sum
returns-clause-sum c = given_back-and-still_owed

pub returns-clause-below : goal.returns-clause-below
returns-clause-below c = still_owed-below
