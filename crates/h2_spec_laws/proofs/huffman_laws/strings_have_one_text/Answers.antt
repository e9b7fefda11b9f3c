use Rattle.h2_spec.proofs.HuffmanLaws.{one_text, text_or_end}
use Rattle.h2_spec_laws.proofs.huffman_laws.strings_have_one_text.Goals as goal

pub returns : goal.returns
returns c = record { one = one_text; none = text_or_end }
