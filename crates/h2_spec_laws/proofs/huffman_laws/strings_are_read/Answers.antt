use Rattle.h2_spec.proofs.HuffmanLaws.{text_read, one_answer}
use Rattle.h2_spec_laws.proofs.huffman_laws.strings_are_read.Goals as goal

pub returns : goal.returns
returns c = record { read = text_read; only = one_answer }
