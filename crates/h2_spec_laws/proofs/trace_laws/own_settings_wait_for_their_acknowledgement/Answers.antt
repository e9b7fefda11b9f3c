use Rattle.h2_spec_laws.proofs.LocalSettingsLaws.{settings-kept}
use Rattle.h2_spec_laws.proofs.trace_laws.own_settings_wait_for_their_acknowledgement.Goals as goal

pub returns : goal.returns
returns c = settings-kept
