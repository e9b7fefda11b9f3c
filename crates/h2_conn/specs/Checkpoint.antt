-- What is kept of a connection, so that it can be made again when it has gone on (RFC 9113, 5.1).
use Rattle.std.specs.Prelude.{◌≡◌, ℕ, List, length, Option}
use Rattle.std.specs.List.{filter}
use Rattle.h2_spec.specs.declared.connection.Config.{Config}
use Rattle.h2_spec.specs.declared.connection.ConnectionState.{ConnectionState}
use Rattle.h2_spec.specs.declared.streams.Stream.{Stream}
use Rattle.h2_spec.specs.Requests.Answer.{Entry}
use Rattle.h2_spec.specs.Hpack.DynamicTable.{Table}
use Rattle.h2_spec.specs.State.{OpenBlock, State}
use Rattle.h2_spec.specs.Stream.{AreRising, Records}
use Rattle.h2_conn_rules.specs.Sound.{IsSoundState}
use Rattle.h2_conn.specs.Blocks.{IsOpenFor}
use Rattle.h2_conn.specs.Follows.{Follows, can_change}

-- the book and the limits, the counts, the open block, the header table, how many records there are, and those of them
-- that can still change
pub record CheckpointView : Type 0 where
  pub book : List Entry
  pub config : Config
  pub core : ConnectionState
  pub block : Option OpenBlock
  pub table : Table
  pub count : ℕ
  pub changing : List Stream

abbrev pub checkpoint_of : State → CheckpointView
checkpoint_of s = record {
  book = s.book;
  config = s.config;
  core = s.core;
  block = s.block;
  table = s.table;
  count = length s.streams;
  changing = filter (can_change s.block) s.streams;
}

-- the records, and the last stream that was opened
abbrev pub records_of : State → Records
records_of s = record { streams = s.streams; last = s.core.last }

-- what is true of the state of every connection: counts and records are sound, identifiers rise, and an open block is
-- known by its stream
pub record IsConsistent (s : State) : Type 0 where
  pub sound : IsSoundState s.book s.core (records_of s)
  pub rising : AreRising 0 s.core.last s.streams
  pub opened : IsOpenFor (records_of s) s.block

-- a checkpoint of a state of a connection that this one follows
pub record Precedes (checkpoint : CheckpointView) (later : State) : Type 0 where
  pub state : State
  pub consistent : IsConsistent state
  pub taken : checkpoint ≡ checkpoint_of state
  pub follows : Follows state later
