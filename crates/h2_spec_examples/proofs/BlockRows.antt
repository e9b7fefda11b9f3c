-- Field blocks that are refused, cut, or have to begin with a size update (RFC 7541, 4.2 to 6.3; RFC 9113, 4.3).
use Rattle.std.specs.Prelude.{◌≡◌, ℕ, Bool, true, false, List, [], ◌∷◌, map, nat_lt, replicate, refl, codes}
use Prim.Native.String.{String}
use Rattle.h2_spec.specs.Hpack.Field.{Field, field}
use Rattle.h2_spec.specs.Hpack.DynamicTable.{Table}
use Rattle.h2_spec.specs.Hpack.Block.{Decoded, Outcome, Unfinished, Faulty, ZeroIndex, Index, Integer, Huffman, LateUpdate, LargeUpdate, MissingUpdate, decoded, carried_on, list_size, start}
use Rattle.h2_spec_examples.proofs.Hex.{hex}

-- a table of 4096 octets with these entries
abbrev table : List Field → Table
table entries = record { entries = entries; max = 4096 }

abbrev pair : String → String → Field
pair name value = field (codes name) (codes value)

-- what is said about a block: how it ends so far after each of its fragments, and then its fields, whether it still has
-- to begin with a size update, and the entries of the table
abbrev Told : Type 0
Told = List Outcome × List Field × Bool × List Field

-- after these outcomes, the latest first
in_pieces : ℕ → Decoded → List Outcome → List String → Told
unfolding carried_on
in_pieces limit d before [] = (before, d.progress.fields, d.progress.due, d.progress.table.entries)
in_pieces limit d before (piece ∷ pieces) = let e = carried_on limit d (hex (codes piece)) in in_pieces limit e (e.outcome ∷ before) pieces

-- a block in fragments, on a table of this limit; the outcomes are listed, the latest first
block : ℕ → Bool → List Field → List String → Told
unfolding in_pieces decoded
block limit due entries pieces = in_pieces limit (decoded limit (start (table entries) due) []) [] pieces

abbrev cut : String → Outcome
cut rest = Unfinished (hex (codes rest))

abbrev get : List Field
get = pair ":method" "GET" ∷ []

abbrev ab : List Field
ab = pair "a" "b" ∷ []

-- ---- blocks that are refused, on an empty table

-- the fragments, and how the block ends after each of them, the latest first; its fields; the entries
abbrev Row : Type 0
Row = List String × List Outcome × List Field × List Field

abbrev refused : List Row
refused =
    -- a size update above the limit (RFC 7541, 6.3), and one after a field (4.2), which is decided before its size
    ("3fe2" ∷ "1f" ∷ [], Faulty LargeUpdate ∷ cut "3fe2" ∷ [], [], []) ∷
    ("8220" ∷ [], Faulty LateUpdate ∷ [], get, []) ∷
    ("823fe21f" ∷ [], Faulty LateUpdate ∷ [], get, []) ∷
    -- index 0 (6.1), and an index past both tables (2.3.3): a fault stays, and leaves the fields before it
    ("80" ∷ [], Faulty ZeroIndex ∷ [], [], []) ∷
    ("c0" ∷ [], Faulty Index ∷ [], [], []) ∷
    ("82be" ∷ "82" ∷ [], Faulty Index ∷ Faulty Index ∷ [], get, []) ∷
    -- an index of no name, which is decided before a value that is no Huffman string
    ("7f0182ffff" ∷ [], Faulty Index ∷ [], [], []) ∷
    ("7e" ∷ "82ff" ∷ "ff" ∷ [], Faulty Index ∷ cut "7e82ff" ∷ cut "7e" ∷ [], [], []) ∷
    -- sixteen bits of padding, the code of EOS, and a zero in the padding (5.2)
    ("4182ffff" ∷ [], Faulty Huffman ∷ [], [], []) ∷
    ("4184ffffffff" ∷ [], Faulty Huffman ∷ [], [], []) ∷
    ("418100" ∷ [], Faulty Huffman ∷ [], [], []) ∷
    -- a name that is no Huffman string is refused once its value is whole
    ("40016101624082ffff" ∷ "01" ∷ "62" ∷ [], Faulty Huffman ∷ cut "4082ffff01" ∷ cut "4082ffff" ∷ [], ab, ab) ∷
    -- an index and a length that go on after the fifth octet after the prefix (5.1)
    ("ff80808080" ∷ "80" ∷ [], Faulty Integer ∷ cut "ff80808080" ∷ [], [], []) ∷
    ("82417f80808080" ∷ "80" ∷ [], Faulty Integer ∷ cut "417f80808080" ∷ [], get, []) ∷
    -- blocks that end inside an integer, and before a value
    ("ff80808080" ∷ [], cut "ff80808080" ∷ [], [], []) ∷
    ("41" ∷ [], cut "41" ∷ [], [], []) ∷ []

blocks_are_refused : map (λ (row : Row). block 4096 false [] row.0) refused ≡ map (λ (row : Row). (row.1, row.2, false, row.3)) refused
unfolding block
blocks_are_refused = refl

-- ---- a limit that was lowered (RFC 7541, 4.2; RFC 9113, 4.3.1)

-- the limit of a table of 4096 octets with an entry; the fragments, and how the block ends after each of them, the
-- latest first; its fields; whether a size update is still due; the entries
abbrev UpdateRow : Type 0
UpdateRow = ℕ × List String × List Outcome × List Field × Bool × List Field

abbrev updates : List UpdateRow
updates =
    (100, "3f45828684" ∷ [], cut "" ∷ [], pair ":method" "GET" ∷ pair ":scheme" "http" ∷ pair ":path" "/" ∷ [], false, ab) ∷
    (100, "3f" ∷ "4582" ∷ [], cut "" ∷ cut "3f" ∷ [], get, false, ab) ∷
    (100, "20" ∷ "3f4582" ∷ [], cut "" ∷ cut "" ∷ [], get, false, []) ∷
    (33, "3f02" ∷ [], cut "" ∷ [], [], false, []) ∷
    (100, "3f46" ∷ "82" ∷ [], Faulty LargeUpdate ∷ Faulty LargeUpdate ∷ [], [], true, ab) ∷
    -- an instruction that is whole is refused, whatever it is
    (100, "82" ∷ [], Faulty MissingUpdate ∷ [], [], true, ab) ∷
    (100, "80" ∷ [], Faulty MissingUpdate ∷ [], [], true, ab) ∷
    (100, "4182ff" ∷ "ff" ∷ [], Faulty MissingUpdate ∷ cut "4182ff" ∷ [], [], true, ab) ∷
    -- and one that is not whole is named first
    (100, "ff80808080" ∷ "80" ∷ [], Faulty Integer ∷ cut "ff80808080" ∷ [], [], true, ab) ∷
    (100, "41" ∷ [], cut "41" ∷ [], [], true, ab) ∷
    -- no octet of the block: the update is still due
    (100, "" ∷ [], cut "" ∷ [], [], true, ab) ∷
    (100, [], [], [], true, ab) ∷
    -- none is due at the maximum, or above it
    (4096, "be" ∷ [], cut "" ∷ [], ab, false, ab) ∷
    (4097, "3fe21fbe" ∷ [], cut "" ∷ [], ab, false, ab) ∷ []

blocks_begin_with_the_update_that_is_due : map (λ (row : UpdateRow). block row.0 (nat_lt row.0 4096) ab row.1) updates ≡ map (λ (row : UpdateRow). (row.2, row.3, row.4, row.5)) updates
unfolding block
blocks_begin_with_the_update_that_is_due = refl

-- ---- a long block: 2,000 indexed fields, 42 octets each; a decoder has no limit of its own

outcome_and_size : Decoded → Outcome × ℕ
outcome_and_size d = (d.outcome, list_size d.progress.fields)

long_block_ends_and_counts : outcome_and_size (decoded 4096 (start (table []) false) (replicate 2000 0x82)) ≡ (Unfinished [], 84000)
unfolding outcome_and_size decoded
long_block_ends_and_counts = refl
