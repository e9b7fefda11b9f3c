-- What may change for a frame that is ignored because the server has reset its stream (RFC 9113, 4.3 and 5.1).
use Rattle.std.specs.Prelude.{◌≡◌, Bool, true, [], ◌==◌}
use Rattle.std.specs.List.{list_all}
use Rattle.h2_spec.specs.Frames.Frame.{Frame}
use Rattle.h2_spec.specs.State.{State}
use Rattle.h2_spec.specs.Change.{Step}

-- whether a frame is on stream 0
abbrev pub is_on_connection : Frame → Bool
is_on_connection f = f.stream == 0

-- at most the connection's receive window changes, with the octets that are not returned yet; and frames are sent on
-- stream 0 alone
pub record OnlyReceiveWindowChanges (s : State) (e : Step) : Type 0 where
  pub state : e.state ≡ record s { core = record s.core { recv = e.state.core.recv; owed = e.state.core.owed } }
  pub sent : list_all is_on_connection e.sent ≡ true

-- at most the open block and the header table change, and nothing is sent
pub record OnlyHeaderTableChanges (s : State) (e : Step) : Type 0 where
  pub state : e.state ≡ record s { block = e.state.block; table = e.state.table }
  pub sent : e.sent ≡ []
