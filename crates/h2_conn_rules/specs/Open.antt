-- A state by its parts, and what the end of an open block needs of its stream.
use Rattle.std.specs.Prelude.{◌≡◌, ℕ, ◌<◌, ◌%◌, true, List, Option}
use Rattle.h2_spec.specs.declared.connection.Config.{Config}
use Rattle.h2_spec.specs.declared.connection.ConnectionState.{ConnectionState}
use Rattle.h2_spec.specs.declared.connection.Purpose.{Purpose}
use Rattle.h2_spec.specs.declared.connection.Purpose.TheVariants.{Request, Trailers, Closed, TableOnly}
use Rattle.h2_spec.specs.declared.streams.StreamState.TheVariants.{WeReset}
use Rattle.h2_spec.specs.declared.streams.Stream.{Stream}
use Rattle.h2_spec.specs.Requests.Answer.{Entry}
use Rattle.h2_spec.specs.Hpack.DynamicTable.{Table}
use Rattle.h2_spec.specs.State.{OpenBlock, State}
use Rattle.h2_spec.specs.Stream.{Records, is_peer_open, kind_of}
use Rattle.h2_streams.specs.Put.{can_become}

-- a state of these parts
abbrev pub state_of : List Entry → Config → ConnectionState → Option OpenBlock → Table → List Stream → State
state_of book config core block table streams = record { book = book; config = config; core = core; block = block; table = table; streams = streams }

-- by what the block is for: a client's stream above the others, one that the peer may still send on, or one that the
-- server may reset
abbrev pub IsOpenAt : Records → ℕ → Purpose → Type 0
IsOpenAt r id Request = (r.last < id) × (id % 2 ≡ 1)
IsOpenAt r id Trailers = is_peer_open (kind_of r.last r.streams id) ≡ true
IsOpenAt r id Closed = can_become (kind_of r.last r.streams id) WeReset ≡ true
IsOpenAt r id TableOnly = Unit {0}
