-- The program `table`: what the lines of its input do to a dynamic table, and what is printed (RFC 7541, 2.3.2 and 4).
use Rattle.std.specs.Prelude.{ℕ, ◌+◌, ◌==◌, List, [], ◌∷◌, ◌++◌, length, take, drop, position, nat_lt, if◌then◌else◌, codes, decimal, Option, Some, None, option_map}
use Rattle.std.specs.Str.{bytes_eq}
use Rattle.h2_spec.specs.Texts.Assemble.{number_at}
use Rattle.h2_spec.specs.Texts.Script.{max_u32}
use Rattle.h2_spec.specs.Frames.Parse.{Front, Stop, One, parse_all}
use Rattle.h2_spec.specs.Hpack.Field.{field}
use Rattle.h2_spec.specs.Hpack.DynamicTable.{Table, LimitedTable, insert, resize, total_size}
use Rattle.h2_spec.specs.Texts.Show.{entry_lines, joined}
use Rattle.h2_cmd_batch.specs.Faults.{fault_line}

-- ---- the words of a line

-- what a line asks for
pub data Command : Type 0 where
  Add : List ℕ → List ℕ → Command
  Max : ℕ → Command

-- what follows a word at the front of a text
abbrev pub behind : List ℕ → List ℕ → Option (List ℕ)
behind word text = if bytes_eq (take (length word) text) word then Some (drop (length word) text) else None

-- what precedes the first space, and what follows it
abbrev pub cut_at : Option ℕ → List ℕ → Option Command
cut_at None text = None
cut_at (Some at) text = Some (Add (take at text) (drop (at + 1) text))

-- `add NAME VALUE`, or `max N`
abbrev pub added : Option (List ℕ) → Option Command
added None = None
added (Some rest) = cut_at (position (λ octet. octet == 32) rest) rest

abbrev pub maximal : Option (List ℕ) → Option Command
maximal None = None
maximal (Some rest) = option_map Max (number_at max_u32 rest)

abbrev pub or_else : Option Command → Option Command → Option Command
or_else (Some command) other = Some command
or_else None other = other

abbrev pub command_of : List ℕ → Option Command
command_of line = or_else (added (behind (codes "add ") line)) (maximal (behind (codes "max ") line))

-- ---- what a line does

-- the number of entries, what they count, and the maximum
unfoldable pub counts_line : Table → List ℕ
counts_line t = joined (decimal (length t.entries) ∷ codes " " ∷ decimal (total_size t.entries) ∷ codes " " ∷ decimal t.max ∷ codes "\n" ∷ [])

-- the table after a command, if it is one that the table takes
abbrev pub obeyed : LimitedTable → Option Command → LimitedTable
obeyed t None = t
obeyed t (Some (Add name value)) = record t { table = insert t.table (field name value) }
obeyed t (Some (Max n)) = if nat_lt t.limit n then t else record t { table = resize t.table n }

-- what is printed for it
abbrev pub printed_of : LimitedTable → Option Command → List ℕ
printed_of t None = fault_line 27
printed_of t (Some (Add name value)) = counts_line (insert t.table (field name value))
printed_of t (Some (Max n)) = if nat_lt t.limit n then fault_line 3 else counts_line (resize t.table n)

-- ---- the whole input

-- a line: up to a line feed, which the last may lack
abbrev pub line_to : Option ℕ → List ℕ → List ℕ
line_to None text = text
line_to (Some at) text = take at text

abbrev pub used_to : Option ℕ → List ℕ → ℕ
used_to None text = length text
used_to (Some at) text = at + 1

abbrev pub line_end : List ℕ → Option ℕ
line_end text = position (λ octet. octet == 10) text

abbrev pub first_line : List ℕ → List ℕ
first_line text = line_to (line_end text) text

abbrev pub behind_line : List ℕ → List ℕ
behind_line text = drop (used_to (line_end text) text) text

unfoldable pub line_at : Unit {0} → List ℕ → Front (Unit {0}) (List ℕ)
line_at u [] = Stop
line_at u (octet ∷ octets) = One (first_line (octet ∷ octets)) tt (used_to (line_end (octet ∷ octets)) (octet ∷ octets))

unfoldable pub lines_of : List ℕ → List (List ℕ)
unfolding line_at parse_all
lines_of text = (parse_all line_at tt text).elements

-- what is printed for the lines, and then the entries
unfoldable pub printed_lines : LimitedTable → List (List ℕ) → List ℕ
printed_lines t [] = entry_lines 62 t.table.entries
printed_lines t (line ∷ lines) = printed_of t (command_of line) ++ printed_lines (obeyed t (command_of line)) lines

unfoldable pub table_text : ℕ → List ℕ → List ℕ
unfolding lines_of printed_lines
table_text limit input = printed_lines (record { table = record { entries = []; max = limit }; limit = limit }) (lines_of input)

-- the same in parts, which are printed one after another: a part for each line, and the entries
unfoldable pub printed_parts : LimitedTable → List (List ℕ) → List (List ℕ)
printed_parts t [] = entry_lines 62 t.table.entries ∷ []
printed_parts t (line ∷ lines) = printed_of t (command_of line) ∷ printed_parts (obeyed t (command_of line)) lines

abbrev pub table_parts : ℕ → List ℕ → List (List ℕ)
table_parts limit input = printed_parts (record { table = record { entries = []; max = limit }; limit = limit }) (lines_of input)
