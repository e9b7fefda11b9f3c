-- How many octets the parts of a response's field block have.
use Rattle.std.specs.Prelude.{ℕ, ◌+◌, List, length, flat_map}
use Rattle.h2_spec.specs.Hpack.Field.{Field}
use Rattle.h2_spec.specs.Hpack.Integer.{spell_int}
use Rattle.h2_spec.specs.Hpack.Instruction.{spell}
use Rattle.h2_spec.specs.Requests.Answer.{plain_literal, status_instruction}

-- a string of this many octets without a Huffman code
abbrev pub string_len : ℕ → ℕ
string_len n = length (spell_int 7 0 n) + n

-- a status
abbrev pub status_len : ℕ → ℕ
status_len status = length (spell (status_instruction status))

-- a field: a mark, a name and a value
abbrev pub field_len : Field → ℕ
field_len f = 1 + string_len (length f.name) + string_len (length f.value)

-- fields
abbrev pub field_octets : Field → List ℕ
field_octets f = spell (plain_literal f)

abbrev pub fields_len : List Field → ℕ
fields_len fields = length (flat_map field_octets fields)
