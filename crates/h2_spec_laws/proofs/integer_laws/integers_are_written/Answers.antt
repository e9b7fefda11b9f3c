use Rattle.h2_spec.proofs.IntegerLaws.{spelled_shortest, spelled_read}
use Rattle.h2_spec_laws.proofs.integer_laws.integers_are_written.Goals as goal

pub returns : goal.returns
returns c = record { shortest = spelled_shortest; read_back = spelled_read }
