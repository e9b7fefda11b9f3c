-- The order of the streams' records: by rising identifier, so that sending in the order of the list is sending in the
-- order of the identifiers (RFC 9113, 5.1.1).
use Rattle.std.specs.Prelude.{ℕ, ◌<◌, ◌≤◌, List, [], ◌∷◌}
use Rattle.h2_spec.specs.declared.connection.Config.{Config}
use Rattle.h2_spec.specs.declared.streams.Stream.{Stream}
use Rattle.h2_spec.specs.Requests.Answer.{Entry}
use Rattle.h2_spec.specs.State.{State, opening}
use Rattle.h2_spec.specs.Trace.{Event, trace}

-- identifiers rise from above the first number, up to the second one at most
abbrev pub Rise : ℕ → ℕ → List Stream → Type 0
Rise low high [] = low ≤ high
Rise low high (st ∷ sts) = (low < st.id) × Rise st.id high sts

-- the records of a state rise, and none is above the last stream that was opened
abbrev pub IsOrdered : State → Type 0
IsOrdered s = Rise 0 s.core.last s.streams

-- so it is after each item
abbrev pub AreOrdered : List Event → Type 0
AreOrdered [] = Unit {0}
AreOrdered (e ∷ es) = IsOrdered e.state × AreOrdered es

-- the law: so it is after each item of a run
abbrev pub KeepsOrder : List Entry → Config → List ℕ → Type 0
KeepsOrder book config octets = AreOrdered (trace (opening book config) octets).events
