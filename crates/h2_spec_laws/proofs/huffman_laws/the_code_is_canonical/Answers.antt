use Rattle.h2_spec.proofs.HuffmanLaws.{canonical, has_code, how_many}
use Rattle.h2_spec_laws.proofs.huffman_laws.the_code_is_canonical.Goals as goal

pub returns : goal.returns
returns c = record { canonical = canonical; each = has_code; once = how_many }
