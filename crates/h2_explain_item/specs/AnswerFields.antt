-- The fields of the server's answers, read where they were written (RFC 7541, 6): indexes of the static table, and literals
-- that are no Huffman strings and enter no table.
use Rattle.std.specs.Prelude.{ℕ, List, drop, if◌then◌else◌, Option, Some, None, option_map}
use Rattle.h2_spec.specs.Hpack.Field.{Field, field}
use Rattle.h2_spec.specs.Hpack.Instruction.{Str, NameRef, Ref, Named, Shape, Indexed, Update, Literal}
use Rattle.h2_spec.specs.Hpack.StaticTable.{static_field}
use Rattle.h2_spec.specs.Read.{Read, Whole, More, TooLong}
use Rattle.h2_explain_words.specs.Spelled.{Spelling, ByIndex, literal_spelling}
use Rattle.h2_explain_item.specs.ShownBlock.{Spelled, field_seen}
use Rattle.h2_explain_item.specs.declared.answer_fields.AnswerPart.{AnswerPart}
use Rattle.h2_explain_item.specs.declared.answer_fields.AnswerPart.TheVariants as code

-- a table size update, or a field
pub data Part : Type 0 where
  OfUpdate : ℕ → Part
  OfField : Spelled → Part

-- one of the code
abbrev pub part_seen : AnswerPart → Part
part_seen (code.Update n) = OfUpdate n
part_seen (code.Field f) = OfField (field_seen f)

-- the octets of a string that is no Huffman string
abbrev pub plain : Str → Option (List ℕ)
plain s = if s.huffman then None else Some s.octets

-- the octets of a name that is an index of the static table, or no Huffman string
abbrev pub name_of : NameRef Str → Option (List ℕ)
name_of (Ref i) = option_map (λ (f : Field). f.name) (static_field i)
name_of (Named s) = plain s

-- the field of an index
abbrev pub indexed : ℕ → Option Field → Option Part
indexed i None = None
indexed i (Some f) = Some (OfField (record { field = f; spelling = ByIndex i }))

-- the field of a literal
abbrev pub literal : Spelling → Option (List ℕ) → Option (List ℕ) → Option Part
literal s None value = None
literal s (Some name) None = None
literal s (Some name) (Some value) = Some (OfField (record { field = field name value; spelling = s }))

-- what an instruction gives
abbrev pub part_of : Shape → Option Part
part_of (Update n) = Some (OfUpdate n)
part_of (Indexed i) = indexed i (static_field i)
part_of (Literal mode name value) = literal (literal_spelling mode name value.huffman) (name_of name) (plain value)

-- what octets begin with, by the instruction at their front, and the octets after it
abbrev pub part_after : List ℕ → Option Part → Option (Part × List ℕ)
part_after rest None = None
part_after rest (Some part) = Some (part, rest)

abbrev pub part_by : List ℕ → Read Shape → Option (Part × List ℕ)
part_by b (Whole i used) = part_after (drop used b) (part_of i)
part_by b More = None
part_by b TooLong = None
