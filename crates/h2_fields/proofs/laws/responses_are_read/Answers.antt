use Rattle.h2_fields.proofs.ResponseReading.{response-read}
use Rattle.h2_fields.proofs.laws.responses_are_read.Goals as goal

pub returns : goal.returns
returns c = response-read
