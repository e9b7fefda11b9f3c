-- What a field block does: its fields, and the table after it (RFC 7541, 3; RFC 9113, 4.3).
use Rattle.std.specs.Prelude.{◌≡◌, ℕ, ◌-◌, ◌^◌, Bool, true, false, List, [], ◌∷◌, ◌++◌, take, min, nat_le, ◌==◌, if◌then◌else◌, Option, Some, None, option_to_list, Result, Ok, Err}
use Rattle.h2_spec.specs.Hpack.Field.{Field, field}
use Rattle.h2_spec.specs.Hpack.DynamicTable.{Table, total_size, insert, resize, field_at}
use Rattle.h2_spec.specs.Hpack.Huffman.{HuffRead, Text, Eos, Padding, huffman_text}
use Rattle.h2_spec.specs.Hpack.Instruction.{Str, Shape, Indexed, Update, Literal, Mode, IncrementalIndexing, WithoutIndexing, NeverIndexed, NameRef, Ref, Named, text_of, instr_at}
use Rattle.h2_spec.specs.Read.{Read, Whole, More, TooLong}
use Rattle.h2_spec.specs.Frames.Parse.{Front, Stop, One, parse_all}

-- why a block is refused
pub data Fault : Type 0 where
  -- an indexed field of index 0 (RFC 7541, 6.1)
  ZeroIndex : Fault
  -- an index of neither table (RFC 7541, 2.3.3)
  Index : Fault
  -- an integer that is too long (RFC 7541, 5.1)
  Integer : Fault
  -- a string that is no Huffman code (RFC 7541, 5.2)
  Huffman : Fault
  -- a table size update after a field (RFC 7541, 4.2)
  LateUpdate : Fault
  -- a table size update above the limit (RFC 7541, 6.3)
  LargeUpdate : Fault
  -- no table size update where one is due (RFC 9113, 4.3.1)
  MissingUpdate : Fault

-- ---- one instruction

-- what the next instruction of a block depends on: the table, whether a field was read, and whether the block still has
-- to begin with a size update
pub record DecoderState : Type 0 where
  pub table : Table
  pub begun : Bool
  pub due : Bool

-- what an instruction gives: its field, if it has one, and what the next one depends on
pub record Given : Type 0 where
  pub field : Option Field
  pub after : DecoderState

-- the text of a string
abbrev pub text_result : HuffRead → Result (List ℕ) Fault
text_result (Text t) = Ok t
text_result Eos = Err Huffman
text_result Padding = Err Huffman

-- the name of an entry
abbrev pub name_in : Option Field → Result (List ℕ) Fault
name_in (Some f) = Ok f.name
name_in None = Err Index

-- the name of a literal, from the table as it is before the instruction (4.4)
abbrev pub name_of : NameRef Str → List Field → Result (List ℕ) Fault
name_of (Ref i) entries = name_in (field_at i entries)
name_of (Named s) entries = text_result (text_of s)

-- a literal enters the table, or not (6.2)
abbrev pub table_after : Mode → Table → Field → Table
table_after IncrementalIndexing t f = insert t f
table_after WithoutIndexing t f = t
table_after NeverIndexed t f = t

-- a field, and the table after it
abbrev pub given : DecoderState → Table → Field → Given
given d table f = record { field = Some f; after = record d { table = table; begun = true } }

-- the field of a name and a value, or why one of them is refused: the name is decided first
abbrev pub literal_result : Mode → DecoderState → Result (List ℕ) Fault → Result (List ℕ) Fault → Result Given Fault
literal_result mode d (Ok name) (Ok value) = Ok (given d (table_after mode d.table (field name value)) (field name value))
literal_result mode d (Ok name) (Err fault) = Err fault
literal_result mode d (Err fault) value = Err fault

-- why an index has no field
abbrev pub index_fault : ℕ → Fault
index_fault i = if i == 0 then ZeroIndex else Index

-- the field at an index, or why there is none
abbrev pub indexed_result : DecoderState → ℕ → Option Field → Result Given Fault
indexed_result d i (Some f) = Ok (given d d.table f)
indexed_result d i None = Err (index_fault i)

-- an instruction that is no size update, where none is due (RFC 9113, 4.3.1)
abbrev pub where_not_due : Bool → Result Given Fault → Result Given Fault
where_not_due true r = Err MissingUpdate
where_not_due false r = r

-- a table size update, where it may come, or why it is refused (4.2, 6.3)
abbrev pub update_result : ℕ → DecoderState → ℕ → Result Given Fault
update_result limit d n =
    if d.begun then Err LateUpdate
    else if nat_le n limit then Ok (record { field = None; after = record d { table = resize d.table n; due = false } })
    else Err LargeUpdate

-- the effect of one instruction, or why it is refused: a size update is decided first, then an index, then a Huffman
-- string
unfoldable pub apply : ℕ → DecoderState → Shape → Result Given Fault
unfolding field_at insert resize huffman_text
apply limit d (Update n) = update_result limit d n
apply limit d (Indexed i) = where_not_due d.due (indexed_result d i (field_at i d.table.entries))
apply limit d (Literal mode name value) = where_not_due d.due (literal_result mode d (name_of name d.table.entries) (text_result (text_of value)))

-- ---- one after another

-- an instruction that is whole is taken unless it is refused
abbrev pub taken_unless : ℕ → Result Given Fault → Front DecoderState (Option Field)
taken_unless used (Ok g) = One g.field g.after used
taken_unless used (Err fault) = Stop

-- a whole instruction is taken unless it is refused; nothing else is
abbrev pub instr_taken : ℕ → DecoderState → Read Shape → Front DecoderState (Option Field)
instr_taken limit d (Whole i used) = taken_unless used (apply limit d i)
instr_taken limit d More = Stop
instr_taken limit d TooLong = Stop

-- what the instruction at the front of the octets gives, if it is whole and not refused
unfoldable pub next_instr : ℕ → DecoderState → List ℕ → Front DecoderState (Option Field)
unfolding instr_at apply
next_instr limit d b = instr_taken limit d (instr_at b)

-- how a block ends so far: with the beginning of an instruction, or by a fault
pub data Outcome : Type 0 where
  Unfinished : List ℕ → Outcome
  Faulty : Fault → Outcome

-- why no instruction was taken at the front of these octets
abbrev pub refused_by : List ℕ → Result Given Fault → Outcome
refused_by b (Ok g) = Unfinished b
refused_by b (Err fault) = Faulty fault

-- how a block ends so far, by what is at the front of the octets left
unfoldable pub outcome_of : ℕ → DecoderState → List ℕ → Read Shape → Outcome
unfolding apply
outcome_of limit d b (Whole i used) = refused_by b (apply limit d i)
outcome_of limit d b More = Unfinished b
outcome_of limit d b TooLong = Faulty Integer

-- the fields that instructions give
abbrev pub fields_given : List (Option Field) → List Field
fields_given [] = []
fields_given (None ∷ given) = fields_given given
fields_given (Some f ∷ given) = f ∷ fields_given given

-- ---- a block

-- how far a block has got: its fields, the table, and whether it still has to begin with a size update
pub record Progress : Type 0 where
  pub fields : List Field
  pub table : Table
  pub due : Bool

-- a block so far, and how it ends
pub record Decoded : Type 0 where
  pub progress : Progress
  pub outcome : Outcome

-- a block from its beginning
abbrev pub start : Table → Bool → Progress
start table due = record { fields = []; table = table; due = due }

-- whether a field was read
abbrev pub has_fields : List Field → Bool
has_fields [] = false
has_fields (f ∷ fs) = true

-- how far decoding has got, apart from the fields
abbrev pub decoding : Progress → DecoderState
decoding p = record { table = p.table; begun = has_fields p.fields; due = p.due }

-- how far a block has got after an instruction
abbrev pub progress_after : Progress → Given → Progress
progress_after p g = record { fields = p.fields ++ option_to_list g.field; table = g.after.table; due = g.after.due }

-- how far a block has got after an instruction, or why that is refused
abbrev pub progress_by : Progress → Result Given Fault → Result Progress Fault
progress_by p (Ok g) = Ok (progress_after p g)
progress_by p (Err fault) = Err fault

-- the block after one instruction more, or why that is refused
unfoldable pub applied : ℕ → Progress → Shape → Result Progress Fault
unfolding apply
applied limit p i = progress_by p (apply limit (decoding p) i)

-- the block carried on over more octets: its instructions in order, up to the first that is refused
unfoldable pub decoded : ℕ → Progress → List ℕ → Decoded
unfolding parse_all next_instr outcome_of
decoded limit p b =
    let t = parse_all (next_instr limit) (decoding p) b in
    record { progress = record { fields = p.fields ++ fields_given t.elements; table = t.state.table; due = t.state.due }; outcome = outcome_of limit t.state t.rest (instr_at t.rest) }

-- a block in pieces: the rest goes before the next piece, and a fault stays
unfoldable pub carried_on : ℕ → Decoded → List ℕ → Decoded
unfolding decoded
carried_on limit d piece = elim d.outcome [ Unfinished rest ↦ decoded limit d.progress (rest ++ piece) | Faulty fault ↦ d ]

-- a block carried on over fragments, one after another
unfoldable pub carried_through : ℕ → Decoded → List (List ℕ) → Decoded
unfolding carried_on
carried_through limit d [] = d
carried_through limit d (piece ∷ pieces) = carried_through limit (carried_on limit d piece) pieces

-- ---- what a decoder holds of a block

-- the fields so far, and whether a size update is still due
pub record FieldsSoFar : Type 0 where
  pub fields : List Field
  pub due : Bool

-- with the table, how far a block has got
abbrev pub progress_with : Table → FieldsSoFar → Progress
progress_with table s = record { fields = s.fields; table = table; due = s.due }

-- a block is as after some of its first octets, which are whole instructions
abbrev pub ProgressWithin : ℕ → Progress → List ℕ → Progress → Type 0
ProgressWithin limit before b now = (n : ℕ) × (decoded limit before (take n b) ≡ record { progress = now; outcome = Unfinished [] })

-- the size of a list of fields, as far as 64 bits go (RFC 9113, 6.5.2)
abbrev pub list_size : List Field → ℕ
list_size fields = min (total_size fields) (2 ^ 64 - 1)
