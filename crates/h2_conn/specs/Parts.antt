-- A connection between two items without the book that it borrows.
use Rattle.std.specs.Prelude.{List, Option}
use Rattle.h2_spec.specs.declared.connection.Config.{Config}
use Rattle.h2_spec.specs.declared.connection.ConnectionState.{ConnectionState}
use Rattle.h2_spec.specs.declared.streams.Stream.{Stream}
use Rattle.h2_spec.specs.Requests.Answer.{Entry}
use Rattle.h2_spec.specs.Hpack.DynamicTable.{Table}
use Rattle.h2_spec.specs.State.{OpenBlock, State}
use Rattle.h2_conn_rules.specs.Sound.{AreSound, in_force}

-- all of a state but the book
pub record PartsView : Type 0 where
  pub config : Config
  pub core : ConnectionState
  pub block : Option OpenBlock
  pub table : Table
  pub streams : List Stream

abbrev pub parts_of : State → PartsView
parts_of s = record { config = s.config; core = s.core; block = s.block; table = s.table; streams = s.streams }

-- the state that has these parts and this book
abbrev pub state_of : List Entry → PartsView → State
state_of book p = record { book = book; config = p.config; core = p.core; block = p.block; table = p.table; streams = p.streams }

-- what streams were answered with is of this book, and what they have still to send is of its bodies
abbrev pub AreOfBook : List Entry → PartsView → Type 0
AreOfBook book p = AreSound book (in_force p.core) p.streams
