-- Field blocks that are not at their end.
use Rattle.std.specs.Prelude.{◌≡◌, ℕ, Bool, true, false, Option, Some, None, Result, Ok, Err}
use Rattle.h2_spec.specs.declared.causes.Cause.{Cause}
use Rattle.h2_spec.specs.declared.connection.BlockView.{BlockView}
use Rattle.h2_spec.specs.declared.reactions.Change.{Change}
use Rattle.h2_spec.specs.Change.{only_shown}
use Rattle.h2_spec.specs.Hpack.DynamicTable.{LimitedTable, Table}
use Rattle.h2_spec.specs.Requests.Headers as headers
use Rattle.h2_spec.specs.State.{Decoding, OpenBlock, State}
use Rattle.h2_spec.specs.Stream.{Records}
use Rattle.h2_conn.specs.Fragments.{Tentative, after_of}
use Rattle.h2_conn.specs.OpenBlocks.{block_after, decoding_in}
pub use Rattle.h2_conn_rules.specs.Open.{IsOpenAt}
use Rattle.h2_table.specs.Edits.{EditOf, edited}

-- ---- the stream of an open block

abbrev pub IsDecodedAt : Records → ℕ → Option Decoding → Type 0
IsDecodedAt r id None = Unit {0}
IsDecodedAt r id (Some d) = IsOpenAt r id d.purpose

-- where no block is open, there is nothing to know
abbrev pub IsOpenFor : Records → Option OpenBlock → Type 0
IsOpenFor r None = Unit {0}
IsOpenFor r (Some b) = IsDecodedAt r b.shown.stream b.decoding

-- no block is open, or one that is decoded no more
abbrev pub IsStopped : Option OpenBlock → Type 0
IsStopped None = Unit {0}
IsStopped (Some b) = b.decoding ≡ None

-- a state with its open block decoded no more
abbrev pub stopped : State → State
stopped s = record s { block = only_shown s.block }

-- ---- what a fragment results in

-- a state with the header table that this edit makes of its own
abbrev pub with_table : State → EditOf → State
with_table s edit = record s { table = edited s.table.entries edit }

-- a fragment that was decoded, in the state with the header table after it: the block as it is shown, or an error
abbrev pub effect_read : State → Decoding → Bool → Result BlockView Cause → headers.FrameEffect
effect_read s d end_headers (Err cause) = headers.Breaks cause
effect_read s d end_headers (Ok shown) = headers.fragment_read s shown d end_headers

-- a fragment was decoded, and its block goes on: with the header table that this edit makes of the state's own
abbrev pub going_on : State → EditOf → BlockView → Decoding → Tentative → headers.FrameEffect
going_on s edit shown d t = headers.fragment_read (with_table s edit) shown (after_of d t) false

-- a fragment was decoded that is the last of its block
abbrev pub at_end : State → EditOf → BlockView → Decoding → Tentative → headers.FrameEffect
at_end s edit shown d t = headers.fragment_read (with_table s edit) shown (after_of d t) true

-- a change, with this block and the header table that this edit makes of the state's own
abbrev pub makes_open : State → EditOf → Option BlockView → Decoding → Change → headers.FrameEffect
makes_open s edit shown d change = headers.Makes (record (with_table s edit) { block = block_after shown d }) change

-- the header table of a state, with its limit
abbrev pub limited : ℕ → Table → LimitedTable
limited limit table = record { table = table; limit = limit }

-- the same of a block that may be open
abbrev pub decoding_of : Option OpenBlock → Option (BlockView × Decoding)
decoding_of None = None
decoding_of (Some b) = decoding_in b.shown b.decoding
