-- A state is made again from its checkpoint and the records of a state that follows it.
use Rattle.std.proofs.Common.{◌≡◌, ◌≤◌, List, length, take, ap, subst, sym}
use Rattle.h2_spec.specs.declared.streams.Stream.{Stream}
use Rattle.h2_spec.specs.State.{State}
use Rattle.h2_spec.specs.Stream.{AreRising, Records}
use Rattle.h2_conn_rules.specs.Sound.{IsSoundState}
use Rattle.h2_streams.specs.Kept.{Rise}
use Rattle.h2_streams.specs.Rebuilt.{AreKnown, AreOthersClosed, rebuilt}
use Rattle.h2_streams.proofs.PlaceLaws.{rise}
use Rattle.h2_streams.proofs.RebuiltLaws.{continues-closed, continues-known, continues-rising, continues-within, rise-filter}
use Rattle.h2_conn.specs.Blocks.{IsOpenFor}
use Rattle.h2_conn.specs.Checkpoint.{IsConsistent, CheckpointView, Precedes, checkpoint_of, records_of}
use Rattle.h2_conn.specs.Follows.{Follows, can_change}
use Rattle.h2_conn.proofs.FollowsLaws.{before-continues, before-rebuilt, settled-closed}

-- the records of a checkpoint can be made again from these
pub record CanRebuild (m : CheckpointView) (streams : List Stream) : Type 0 where
  pub within : m.count ≤ length streams
  pub rising : AreRising 0 m.core.last (take m.count streams)
  pub changed : Rise 0 m.changing
  pub known : AreKnown (take m.count streams) m.changing
  pub closed : AreOthersClosed m.changing (take m.count streams)

state-rebuilds : (s later : State) → IsConsistent s → IsConsistent later → Follows s later → CanRebuild (checkpoint_of s) later.streams
state-rebuilds s later x y f =
    let rising = rise 0 later.core.last later.streams y.rising in
    let goes_on = before-continues s later rising f in
    let own = rise 0 s.core.last s.streams x.rising in
    record {
      within = continues-within (can_change s.block) s.streams later.streams goes_on;
      rising = continues-rising (can_change s.block) 0 s.core.last s.streams later.streams goes_on x.rising;
      changed = rise-filter (can_change s.block) 0 s.streams own;
      known = continues-known (can_change s.block) s.streams later.streams goes_on;
      closed = continues-closed (can_change s.block) 0 s.streams later.streams (settled-closed s.block) own goes_on;
    }

pub can-rebuild : (m : CheckpointView) (later : State) → IsConsistent later → Precedes m later → CanRebuild m later.streams
can-rebuild m later y p = subst (λ (n : CheckpointView). CanRebuild n later.streams) (sym p.taken) (state-rebuilds p.state later p.consistent y p.follows)

-- the records made again
abbrev pub restored : CheckpointView → List Stream → Records
restored m streams = record { streams = rebuilt m.count m.changing streams; last = m.core.last }

-- they are those of the state that the checkpoint was taken of
records-restored : (s later : State) → IsConsistent later → Follows s later → restored (checkpoint_of s) later.streams ≡ records_of s
records-restored s later y f =
    ap (λ (xs : List Stream). let r : Records = record { streams = xs; last = s.core.last } in r) (before-rebuilt s later (rise 0 later.core.last later.streams y.rising) f)

-- what is true of the counts, the records and the open block
abbrev pub IsRestored : CheckpointView → Records → Type 0
IsRestored m r = IsSoundState m.book m.core r × IsOpenFor r m.block

pub restored-sound : (m : CheckpointView) (later : State) → IsConsistent later → Precedes m later → IsRestored m (restored m later.streams)
restored-sound m later y p =
    let s = p.state in
    let same : IsRestored (checkpoint_of s) (restored (checkpoint_of s) later.streams) = subst (IsRestored (checkpoint_of s)) (sym (records-restored s later y p.follows)) (p.consistent.sound, p.consistent.opened) in
    subst (λ (n : CheckpointView). IsRestored n (restored n later.streams)) (sym p.taken) same

-- the state of a checkpoint and of records
abbrev pub state_of_checkpoint : CheckpointView → List Stream → State
state_of_checkpoint m streams = record { book = m.book; config = m.config; core = m.core; block = m.block; table = m.table; streams = streams }

pub state-restored : (s : State) (m : CheckpointView) (later : State) → IsConsistent later → m ≡ checkpoint_of s → Follows s later → state_of_checkpoint m (rebuilt m.count m.changing later.streams) ≡ s
state-restored s m later y e f =
    subst (λ (n : CheckpointView). state_of_checkpoint n (rebuilt n.count n.changing later.streams) ≡ s) (sym e)
    (ap (λ (xs : List Stream). let t : State = record s { streams = xs } in t) (before-rebuilt s later (rise 0 later.core.last later.streams y.rising) f))
