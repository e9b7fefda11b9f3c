use Rattle.h2_spec.proofs.IntegerLaws.{int_read, int_whole, int_unfinished, int_too_long}
use Rattle.h2_spec_laws.proofs.integer_laws.integers_are_read.Goals as goal

pub returns : goal.returns
returns c = record { read = int_read; whole = int_whole; unfinished = int_unfinished; too_long = int_too_long }
