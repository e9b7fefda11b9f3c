-- How the fields of a field block are spelled, by its octets alone (RFC 7541, 6): the instructions in their order, as many
-- as were carried out, which is seen by how many fields the block has given.
use Rattle.std.specs.Prelude.{◌≡◌, ℕ, ◌<◌, ◌≤◌, ◌==◌, ◌&&◌, ◌||◌, Bool, true, false, List, [], ◌∷◌, ◌++◌, length, drop, nat_le, nat_lt, if◌then◌else◌, Option, Some, None}
use Rattle.h2_spec.specs.Hpack.Instruction.{Str, Shape, Indexed, Update, Literal, Mode, NameRef, Ref, Named, instr_at}
use Rattle.h2_spec.specs.Frames.Parse.{Front, Stop, One, parse_all}
use Rattle.h2_spec.specs.Read.{Read, Whole, More, TooLong}
use Rattle.h2_hpack_instruction.specs.Shapes.{mode_of}
use Rattle.h2_explain_words.specs.declared.spelled.Spelling as code
use Rattle.h2_explain_words.specs.declared.spelled.Spelling.TheVariants as code_spelling
use Rattle.h2_explain_words.specs.declared.spelled.Stopped.{Stopped}
use Rattle.h2_explain_words.specs.declared.spelled.Stopped.TheVariants as stop

-- ---- spellings

-- how a field was spelled
pub data Spelling : Type 0 where
  -- by an index of the tables (6.1)
  ByIndex : ℕ → Spelling
  -- as a literal: what becomes of it, the index of its name, unless that is a string, and whether its name and its
  -- value are Huffman strings (6.2)
  AsLiteral : Mode → Option ℕ → Bool → Bool → Spelling

-- a spelling of the code
abbrev pub spelling_seen : code.Spelling → Spelling
spelling_seen (code_spelling.Indexed i) = ByIndex i
spelling_seen (code_spelling.Literal mode index name value) = AsLiteral (mode_of mode) index name value

-- how a literal is spelled, whose value is a Huffman string or not
abbrev pub literal_spelling : Mode → NameRef Str → Bool → Spelling
literal_spelling mode (Ref i) huffman = AsLiteral mode (Some i) false huffman
literal_spelling mode (Named name) huffman = AsLiteral mode None name.huffman huffman

-- the spellings of the fields that instructions give: table size updates give none
abbrev pub spellings : List Shape → List Spelling
spellings [] = []
spellings (Indexed i ∷ is) = ByIndex i ∷ spellings is
spellings (Update n ∷ is) = spellings is
spellings (Literal mode name value ∷ is) = literal_spelling mode name value.huffman ∷ spellings is

-- ---- one instruction

-- what the instructions so far gave: how each field was spelled, and the table size updates
pub record Taken : Type 0 where
  pub given : List Spelling
  pub updates : List ℕ

-- with a field more, if the block has given it: `count` is how many there are
abbrev pub with_given : ℕ → Taken → Spelling → Option Taken
with_given count t s = if nat_lt (length t.given) count then Some (record t { given = t.given ++ s ∷ [] }) else None

-- with a table size update, if it was carried out: in front of a field, or of none where the limit lets it through (4.2)
abbrev pub with_update : (count limit : ℕ) → Taken → ℕ → Option Taken
with_update count limit t n =
    if nat_lt (length t.given) count || (count == 0 && nat_le n limit) then Some (record t { updates = t.updates ++ n ∷ [] }) else None

-- after an instruction, if it was carried out
abbrev pub after : (count limit : ℕ) → Taken → Shape → Option Taken
after count limit t (Indexed i) = with_given count t (ByIndex i)
after count limit t (Update n) = with_update count limit t n
after count limit t (Literal mode name value) = with_given count t (literal_spelling mode name value.huffman)

-- ---- one after another

abbrev pub taken_if : Shape → (used : ℕ) → Option Taken → Front Taken Shape
taken_if i used (Some t) = One i t used
taken_if i used None = Stop

-- a whole instruction, if it was carried out; nothing else is taken
abbrev pub taken : (count limit : ℕ) → Taken → Read Shape → Front Taken Shape
taken count limit t (Whole i used) = taken_if i used (after count limit t i)
taken count limit t More = Stop
taken count limit t TooLong = Stop

-- the instruction at the front of the octets
unfoldable pub next_taken : (count limit : ℕ) → Taken → List ℕ → Front Taken Shape
unfolding instr_at
next_taken count limit t b = taken count limit t (instr_at b)

-- a block as far as it is read, and the octets after the instructions that were carried out
pub record BlockSpelled : Type 0 where
  pub taken : Taken
  pub rest : List ℕ

-- a block of which nothing was read
abbrev pub unread : BlockSpelled
unread = record { taken = record { given = []; updates = [] }; rest = [] }

-- the block read on over octets, by how many fields it has given with them
unfoldable pub read_to : (count limit : ℕ) → Taken → List ℕ → BlockSpelled
unfolding parse_all next_taken
read_to count limit t b = let p = parse_all (next_taken count limit) t b in record { taken = p.state; rest = p.rest }

-- the block with a fragment more: what was left goes before it
abbrev pub read_more : (count limit : ℕ) → BlockSpelled → List ℕ → BlockSpelled
read_more count limit b fragment = read_to count limit b.taken (b.rest ++ fragment)

-- ---- what was not carried out

-- an instruction that was refused, for an index that no entry has or for something else
abbrev pub stopped_by : (is_index : Bool) → Shape → Stopped
stopped_by is_index (Indexed i) = stop.Index i
stopped_by is_index (Update n) = stop.Update n
stopped_by is_index (Literal mode (Ref i) value) = if is_index then stop.Index i else stop.Other
stopped_by is_index (Literal mode (Named name) value) = stop.Other

-- what is at the front of the octets that are left: nothing was refused where no instruction is whole
abbrev pub stopped_at : (is_index : Bool) → Read Shape → Option Stopped
stopped_at is_index (Whole i used) = Some (stopped_by is_index i)
stopped_at is_index More = None
stopped_at is_index TooLong = Some stop.Other

-- ---- what the code does

-- what is there where something holds
abbrev pub some_if : Bool → Taken → Option Taken
some_if true t = Some t
some_if false t = None

-- the instruction at the front of the octets was carried out, or was not and changed nothing
abbrev pub IsStep : (count limit : ℕ) → Taken → List ℕ → Taken → Option ℕ → Type 0
IsStep count limit old b now (Some used) = (0 < used) × (used ≤ length b) × (read_to count limit old b ≡ read_to count limit now (drop used b))
IsStep count limit old b now None = read_to count limit old b ≡ record { taken = now; rest = b }
