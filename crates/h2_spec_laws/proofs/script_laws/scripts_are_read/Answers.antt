use Rattle.std.proofs.Common.{◌∙◌, sym}
use Rattle.h2_spec_laws.proofs.script_laws.scripts_are_read.Goals as goal
use Rattle.h2_spec.proofs.BadLines.{bad_read}
use Rattle.h2_spec.proofs.ReadingLines.{one_answer, script_read}

pub returns-clause-reading : goal.returns-clause-reading
returns-clause-reading c = script_read

pub returns-clause-read : goal.returns-clause-read
returns-clause-read c = one_answer

pub returns-clause-determined : goal.returns-clause-determined
returns-clause-determined c text a b h k = cc (sym (one_answer text a h) ∙ one_answer text b k)

pub returns-clause-refused : goal.returns-clause-refused
returns-clause-refused c = bad_read
