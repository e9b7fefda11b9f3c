-- What a new connection sends keeps to what its peer grants.
use Rattle.std.specs.Prelude.{◌≡◌, ℕ, ◌≤◌, ◌++◌, List}
use Rattle.h2_spec.specs.declared.connection.Config.{Config}
use Rattle.h2_spec.specs.Requests.Answer.{Entry}
use Rattle.h2_spec.specs.Opening.{opening_octets}
use Rattle.h2_spec.specs.State.{opening}
use Rattle.h2_spec.specs.Trace.{Event, sent_octets, trace}
use Rattle.h2_spec_laws.specs.Grants.{Keeps, start}

-- out has gained the opening SETTINGS and the frames of the items of the octets; and these, item by item and on each
-- stream, keep to what the peer
-- grants: windows, frame size, one answer, nothing after its end, nothing held back (RFC 9113, 5.2, 6.9 and 8.1)
pub record SendsWithinGrants (book : List Entry) (config : Config) (octets out out' : List ℕ) : Type 0 where
  pub events : List Event
  pub run : (trace (opening book config) octets).events ≡ events
  pub sent : out' ≡ out ++ opening_octets config ++ sent_octets events
  pub kept : (id : ℕ) → 1 ≤ id → Keeps book id (opening book config) start events
