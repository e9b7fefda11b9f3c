use Rattle.h2_spec.proofs.HuffmanLaws.{none_begins}
use Rattle.h2_spec_laws.proofs.huffman_laws.no_code_begins_another.Goals as goal

pub returns : goal.returns
returns c = none_begins
