-- The state of a connection (RFC 9113, 5, 6.5.2 and 6.9).
use Rattle.std.specs.Prelude.{ℕ, Bool, false, ◌&&◌, List, [], nat_le, nat_lt, Option, Some, None, pos}
use Rattle.h2_spec.specs.declared.connection.BlockView.{BlockView}
use Rattle.h2_spec.specs.declared.connection.Config.{Config}
use Rattle.h2_spec.specs.declared.connection.ConnectionState.{ConnectionState}
use Rattle.h2_spec.specs.declared.connection.Phase.{Phase}
use Rattle.h2_spec.specs.declared.connection.Phase.TheVariants.{Preface, Settings, Running, Ended}
use Rattle.h2_spec.specs.declared.connection.Purpose.{Purpose}
use Rattle.h2_spec.specs.declared.errors.ErrorCode.{ErrorCode}
use Rattle.h2_spec.specs.declared.flow.LocalSettings.{LocalSettings}
use Rattle.h2_spec.specs.declared.streams.Stream.{Stream}
use Rattle.h2_spec.specs.Hpack.Field.{Field}
use Rattle.h2_spec.specs.Hpack.DynamicTable.{Table}
use Rattle.h2_spec.specs.Settings.{initial, initial_local_settings}
use Rattle.h2_spec.specs.Requests.Answer.{Entry}

-- how far a field block is decoded: what it is for, its fields, whether it still has to begin with a size update, and
-- the octets of an instruction that is not whole
pub record Decoding : Type 0 where
  pub purpose : Purpose
  pub fields : List Field
  pub due : Bool
  pub rest : List ℕ

-- a field block that has begun (4.3); after the end of the connection it is shown and decoded no more
pub record OpenBlock : Type 0 where
  pub shown : BlockView
  pub decoding : Option Decoding

-- the book and the limits; what is counted; the open block; the header table; the records of streams in the order of
-- their opening
pub record State : Type 0 where
  pub book : List Entry
  pub config : Config
  pub core : ConnectionState
  pub block : Option OpenBlock
  pub table : Table
  pub streams : List Stream

-- limits of streams and of credit, with the settings that a connection begins with
abbrev pub limits : ℕ → ℕ → Config
limits streams credit = record { streams = streams; credit = credit; table = 4096; window = 65535; frame = 16384 }

-- the server's settings that come into force once the peer has acknowledged them (6.5.3)
abbrev pub configured : Config → LocalSettings
configured config = record { table = config.table; window = config.window; frame = config.frame }

-- 1 to 1000 streams, and 1 to 65535 octets owed
abbrev pub are_allowed_limits : Config → Bool
are_allowed_limits config = (nat_le 1 config.streams && nat_le config.streams 1000) && nat_le 1 config.credit && nat_le config.credit 65535

-- a table of at most 65536 octets, windows of at most 2147483647, and frames of 16384 to 65536
abbrev pub are_allowed_settings : LocalSettings → Bool
are_allowed_settings own = nat_le own.table 65536 && nat_le own.window 2147483647 && nat_le 16384 own.frame && nat_le own.frame 65536

-- the limits and the settings that a connection takes
abbrev pub is_allowed : Config → Bool
is_allowed config = are_allowed_limits config && are_allowed_settings (configured config)

-- the code of the connection error that ended a connection
abbrev pub ended_code : Phase → Option ErrorCode
ended_code Preface = None
ended_code Settings = None
ended_code Running = None
ended_code (Ended code) = Some code

-- the counts and settings before anything came
abbrev pub opening_core : ConnectionState
opening_core = record { phase = Preface; last = 0; recv = pos 65535; owed = 0; send = pos 65535; peer = initial; own = initial_local_settings; acked = false; goaway = None }

-- the state before anything came
abbrev pub opening : List Entry → Config → State
opening book config = record {
  book = book;
  config = config;
  core = opening_core;
  block = None;
  table = record { entries = []; max = 4096 };
  streams = [];
}

-- a table size update is due where the limit is below the table's maximum (RFC 7541, 4.2)
abbrev pub is_due : State → Bool
is_due s = nat_lt s.core.own.table s.table.max
