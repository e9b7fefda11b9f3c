use Rattle.h2_spec.specs.Texts.Written.{written}
use Rattle.h2_spec_laws.proofs.script_laws.what_is_written_assembles_to_its_octets.Goals as goal
use Rattle.h2_spec.proofs.ReadingLines.{one_answer}
use Rattle.h2_spec.proofs.WrittenLaws.{written_again}

pub returns-clause-assembles : goal.returns-clause-assembles
returns-clause-assembles c = written_again

pub returns-clause-read : goal.returns-clause-read
returns-clause-read c octets h = one_answer (written octets) octets (written_again octets h)
