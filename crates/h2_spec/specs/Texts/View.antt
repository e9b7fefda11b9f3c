-- What is shown of a connection's state.
use Rattle.std.specs.Prelude.{ℕ, Bool, List, map, nat_lt, Option, None, Some, ℤ}
use Rattle.h2_spec.specs.declared.connection.BlockView.{BlockView}
use Rattle.h2_spec.specs.declared.connection.ConnectionState.{ConnectionState}
use Rattle.h2_spec.specs.declared.connection.Phase.{Phase}
use Rattle.h2_spec.specs.declared.flow.LocalSettings.{LocalSettings}
use Rattle.h2_spec.specs.declared.flow.Settings.{Settings}
use Rattle.h2_spec.specs.declared.streams.Stream.{Stream}
use Rattle.h2_spec.specs.declared.streams.StreamView.{StreamView}
use Rattle.h2_spec.specs.Hpack.Field.{Field}
use Rattle.h2_spec.specs.Hpack.DynamicTable.{Table, total_size}
use Rattle.h2_spec.specs.State.{State, OpenBlock}

-- the table's fields are newest first, the streams in the order of their opening
pub record View : Type 0 where
  pub phase : Phase
  pub last : ℕ
  pub recv : ℤ
  pub owed : ℕ
  pub send : ℤ
  pub peer : Settings
  pub acked : Bool
  pub own : LocalSettings
  pub due : Bool
  pub goaway : Option (ℕ × ℕ)
  pub block : Option BlockView
  pub table : List Field
  pub table_size : ℕ
  pub table_max : ℕ
  pub streams : List StreamView

-- what is shown of a stream
abbrev pub shown_stream : Stream → StreamView
shown_stream st = record { id = st.id; kind = st.kind; numbers = st.numbers }

-- what is shown of an open block
abbrev pub shown_block : Option OpenBlock → Option BlockView
shown_block None = None
shown_block (Some b) = Some b.shown

-- the view of these counts, this open block, this header table and these records; a size update is due where the limit
-- is below the table's maximum (RFC 7541, 4.2)
abbrev pub view_of : ConnectionState → Option BlockView → Table → List Stream → View
view_of core block table streams = record {
  phase = core.phase;
  last = core.last;
  recv = core.recv;
  owed = core.owed;
  send = core.send;
  peer = core.peer;
  acked = core.acked;
  own = core.own;
  due = nat_lt core.own.table table.max;
  goaway = core.goaway;
  block = block;
  table = table.entries;
  table_size = total_size table.entries;
  table_max = table.max;
  streams = map shown_stream streams;
}

-- the view of a state
unfoldable pub view : State → View
view s = view_of s.core (shown_block s.block) s.table s.streams
