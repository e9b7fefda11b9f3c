use Rattle.h2_spec_laws.proofs.ConformanceLaws.{cause-least, ignored-least, case-least, accepted-least}
use Rattle.h2_spec_laws.proofs.conformance_laws.each_row_has_its_least.Goals as goal

pub returns-clause-cause : goal.returns-clause-cause
returns-clause-cause c = cause-least

pub returns-clause-reason : goal.returns-clause-reason
returns-clause-reason c = ignored-least

pub returns-clause-special : goal.returns-clause-special
returns-clause-special c = case-least

pub returns-clause-accepted : goal.returns-clause-accepted
returns-clause-accepted c = accepted-least
