use Rattle.std.proofs.Common.{refl}
use Rattle.h2_spec.specs.Causes.AcceptedWords.{accepted_row, all_accepted}
use Rattle.h2_spec.proofs.accepted.sentences.Goals as goal

pub returns : goal.returns
unfolding accepted_row all_accepted
returns c = refl
