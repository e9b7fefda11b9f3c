use Rattle.h2_spec_laws.proofs.FlowLaws.{allowed-initial, allowed-with_setting}
use Rattle.h2_spec_laws.proofs.flow_laws.settings_stay_allowed.Goals as goal

pub returns-clause-first : goal.returns-clause-first
returns-clause-first c = allowed-initial

pub returns-clause-then : goal.returns-clause-then
returns-clause-then c = allowed-with_setting
