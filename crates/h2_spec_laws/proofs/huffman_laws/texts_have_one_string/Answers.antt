use Rattle.h2_spec.proofs.SpellingLaws.{spelled, spelling_octets, one_spelling}
use Rattle.h2_spec_laws.proofs.huffman_laws.texts_have_one_string.Goals as goal

pub returns : goal.returns
returns c = record { written = spelled; octets = spelling_octets; one = one_spelling }
