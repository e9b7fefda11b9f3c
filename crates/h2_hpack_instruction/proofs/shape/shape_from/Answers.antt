use Rattle.std.proofs.Common.{◌+◌}
use Rattle.h2_hpack_instruction.specs.declared.shape.Known.TheVariants as known
use Rattle.h2_hpack_instruction.proofs.Resting.{read-at}
use Rattle.h2_hpack_instruction.proofs.shape.shape_from.Goals as goal

pub returns-in-NameLength-clause-read : goal.returns-in-NameLength-clause-read
returns-in-NameLength-clause-read c =
    read-at c.args.octets.now c.args.point (known.NameLength c.in-NameLength.mode) c.args.point.at c.from_name_length.result c.requires.point c.in-NameLength.is c.from_name_length.ensures

pub returns-in-NameOctets-clause-read : goal.returns-in-NameOctets-clause-read
returns-in-NameOctets-clause-read c =
    read-at c.args.octets.now c.args.point (known.NameOctets c.in-NameOctets.mode c.in-NameOctets.huffman c.in-NameOctets.count) (c.args.point.at + c.in-NameOctets.count) c.from_name.result c.requires.point c.in-NameOctets.is c.from_name.ensures

pub returns-in-ValueLength-clause-read : goal.returns-in-ValueLength-clause-read
returns-in-ValueLength-clause-read c =
    read-at c.args.octets.now c.args.point (known.ValueLength c.in-ValueLength.mode c.in-ValueLength.name) c.args.point.at c.from_value_length.result c.requires.point c.in-ValueLength.is c.from_value_length.ensures

pub returns-in-ValueOctets-clause-read : goal.returns-in-ValueOctets-clause-read
returns-in-ValueOctets-clause-read c =
    read-at c.args.octets.now c.args.point (known.ValueOctets c.in-ValueOctets.mode c.in-ValueOctets.name c.in-ValueOctets.huffman c.in-ValueOctets.count) (c.args.point.at + c.in-ValueOctets.count) c.from_value.result c.requires.point c.in-ValueOctets.is c.from_value.ensures
