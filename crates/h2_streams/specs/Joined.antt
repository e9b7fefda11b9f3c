-- Records of which the first are in brief: those of them that can still change, and all that come after them, are a list
-- of their own.
use Rattle.std.specs.Prelude.{◌≡◌, ℕ, ◌≤◌, List, ◌++◌, map, take, drop, length, Some}
use Rattle.std.specs.List.{AllByRecursion}
use Rattle.h2_spec.specs.declared.streams.Stream.{Stream}
use Rattle.h2_spec.specs.Stream.{AreRising, Records, record_of}
use Rattle.h2_streams.specs.Brief.{AreBrief, brief}
use Rattle.h2_streams.specs.Kept.{Rise}
use Rattle.h2_streams.specs.Rebuilt.{AreKnown, AreOthersClosed, as_in}

-- the first records, those that are also in the front of the list as they are there, and then the rest of the list
abbrev pub joined : List Stream → ℕ → List Stream → List Stream
joined base front own = map (as_in (take front own)) base ++ drop front own

-- the first records, and how many of one's own are in the place of some of them
pub record Base : Type 0 where
  pub records : List Stream
  pub front : ℕ

-- all records
abbrev pub with_base : Base → Records → Records
with_base b own = record own { streams = joined b.records b.front own.streams }

-- the first records are closed but for those that are in the front of one's own, and all rise
pub record IsJoined (base : List Stream) (front : ℕ) (own : List Stream) (last : ℕ) : Type 0 where
  pub within : front ≤ length own
  pub base_rising : Rise 0 base
  pub known : AreKnown base (take front own)
  pub closed : AreOthersClosed (take front own) base
  pub rising : AreRising 0 last (joined base front own)

-- one's own records rise and go with the first ones, of which nothing is counted on a stream that is not live
pub record GoWith (base : Base) (own : Records) : Type 0 where
  pub own_rising : AreRising 0 own.last own.streams
  pub base_brief : AreBrief base.records
  pub is_joined : IsJoined base.records base.front own.streams own.last

-- these records are in a list as they are here
abbrev pub AreIn : List Stream → List Stream → Type 0
AreIn records own = AllByRecursion (λ st. record_of records st.id ≡ Some st) own

-- these records are in a list in brief
abbrev pub AreKept : List Stream → List Stream → Type 0
AreKept records own = AllByRecursion (λ st. record_of records st.id ≡ Some (brief st)) own
