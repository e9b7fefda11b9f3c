-- What a contract sees of a socket.
use Rattle.std.specs.Prelude.{Bool}

-- whether its last read or write failed
pub record SocketView : Type 0 where
  pub failed : Bool
