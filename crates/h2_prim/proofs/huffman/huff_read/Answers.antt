use Rattle.std.proofs.Common.{rules}
use Rattle.h2_prim.proofs.Reading.{is_huffman, where_eos, where_padding}
use Rattle.h2_prim.proofs.huffman.huff_read.Goals as goal

pub returns-in_err-huff_append-clause-has_eos : goal.returns-in_err-huff_append-clause-has_eos
returns-in_err-huff_append-clause-has_eos g c = where_eos _ c.args.octets.now (search rules)

pub returns-in_err-huff_append-clause-is_padding : goal.returns-in_err-huff_append-clause-is_padding
returns-in_err-huff_append-clause-is_padding g c = where_padding _ c.args.octets.now (search rules)

pub returns-clause-is_huffman : goal.returns-clause-is_huffman
returns-clause-is_huffman g c = is_huffman c.args.octets.now c.huff_append.new.out.items (search rules)

pub returns-clause-has_eos : goal.returns-clause-has_eos
returns-clause-has_eos g c = where_eos _ c.args.octets.now (search rules)

pub returns-clause-is_padding : goal.returns-clause-is_padding
returns-clause-is_padding g c = where_padding _ c.args.octets.now (search rules)
