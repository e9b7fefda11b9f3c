-- A fragment's effect is made: the change, with the block and the table after it.
use Rattle.std.proofs.Common.{◌≡◌, ℕ, Bool, List, ◌++◌, sym, ap, subst, ◌∙◌}
use Rattle.std.specs.Prelude.{Option}
use Rattle.h2_spec.specs.declared.connection.Config.{Config}
use Rattle.h2_spec.specs.declared.connection.ConnectionState.{ConnectionState}
use Rattle.h2_spec.specs.declared.connection.Purpose.{Purpose}
use Rattle.h2_spec.specs.declared.reactions.Change.{Change}
use Rattle.h2_spec.specs.declared.reactions.RecordUpdate.{RecordUpdate}
use Rattle.h2_spec.specs.declared.reactions.RecordUpdate.TheVariants.{Unchanged, Put, Shift, Receive}
use Rattle.h2_spec.specs.declared.streams.Stream.{Stream}
use Rattle.h2_spec.specs.Requests.Answer.{Entry}
use Rattle.h2_spec.specs.Change.{Step, made, updated_streams}
use Rattle.h2_spec.specs.Hpack.DynamicTable.{Table}
use Rattle.h2_spec.specs.Hpack.Field.{Field}
use Rattle.h2_spec.specs.Frames.Frame.{frames_octets}
use Rattle.h2_spec.specs.Requests.Headers.{block_ends}
use Rattle.h2_spec.specs.State.{OpenBlock, State}
use Rattle.h2_spec.specs.Stream.{Records}
use Rattle.h2_spec.specs.Trace.{then_sent}
use Rattle.h2_conn.specs.Blocks.{IsOpenFor}
use Rattle.h2_conn.specs.Counts.{with_counts}
use Rattle.h2_spec.specs.Does.{AreShort, Does}
use Rattle.h2_conn.specs.Records.{records}
use Rattle.h2_conn_send.specs.Sending.{core_after, records_after, streams_after}
use Rattle.h2_conn_rules.specs.Open.{state_of}
use Rattle.h2_conn_rules.specs.Sound.{InForce, IsSoundChange, IsSoundRecordUpdate, in_force, updated_records}
use Rattle.h2_conn.proofs.ApplyChangeLaws.{made-then, open-after}
use Rattle.h2_conn.proofs.CountsLaws.{block-counted}
use Rattle.h2_conn_rules.proofs.SoundLaws.{same-own, updated-streams}

-- the state after a change and sending, by its parts
abbrev after-step : State → Change → State
after-step s c = record s { core = core_after c.core (updated_streams c.record_update s.streams); streams = streams_after c.core (updated_streams c.record_update s.streams) }

state-after : (s now : State) (c : Change) (out out' : List ℕ) → Does (then_sent c.core.phase (made s c)) out now out' → now ≡ after-step s c
state-after s now c out out' d = d.state ∙ ap (λ (step : Step). step.state) (made-then s c)

-- the table stays as it was
pub same-table : (s now : State) (c : Change) (out out' : List ℕ) → Does (then_sent c.core.phase (made s c)) out now out' → now.table ≡ s.table
same-table s now c out out' d = ap (λ (x : State). x.table) (state-after s now c out out' d)

-- the server's settings stay as they were
pub same-settings : (s now : State) (c : Change) (out out' : List ℕ) → IsSoundChange s.book (records s) (in_force s.core) c → Does (then_sent c.core.phase (made s c)) out now out' → now.core.own ≡ s.core.own
same-settings s now c out out' sound d = ap (λ (x : State). x.core.own) (state-after s now c out out' d) ∙ same-own s.book (records s) (in_force s.core) c.core c.record_update sound.1

-- with another block and another table
pub rebound : (s now : State) (c : Change) (b : Option OpenBlock) (t : Table) (out out' : List ℕ) → Does (then_sent c.core.phase (made s c)) out now out' →
    Does (then_sent c.core.phase (made (record s { block = b; table = t }) c)) out (record now { block = b; table = t }) out'
rebound s now c b t out out' d =
    let other : State = record s { block = b; table = t } in
    subst (λ (step : Step). Does step out (record now { block = b; table = t }) out') (sym (made-then other c))
    (record {
      state = ap (λ (x : State). record x { block = b; table = t }) (state-after s now c out out' d);
      sent = d.sent ∙ ap (λ (step : Step). out ++ frames_octets step.sent) (made-then s c);
      short = subst (λ (step : Step). AreShort step.sent) (made-then s c) d.short;
    })

-- the last stream that was opened is the one that the counts say
updated-last : (book : List Entry) (r : Records) (before : InForce) (now : ConnectionState) (t : RecordUpdate) → IsSoundRecordUpdate book r before now t → (updated_records t r).last ≡ now.last
updated-last book r before now Unchanged h = sym h.1
updated-last book r before now (Put st) h = sym h.4
updated-last book r before now (Shift from to) h = sym h.3
updated-last book r before now (Receive from to) h = absurd h

-- an open block that is known with the records after the change is known with those after sending
pub open-then : (s now : State) (r : Records) (c : Change) (b : Option OpenBlock) (out out' : List ℕ) → IsSoundChange s.book (records s) (in_force s.core) c →
    IsOpenFor (updated_records c.record_update (records s)) b → Does (then_sent c.core.phase (made s c)) out now out' → now.streams ≡ r.streams → r.last ≡ now.core.last → IsOpenFor r b
open-then s now r c b out out' sound opened d held last =
    let mid = updated_records c.record_update (records s) in
    let is = state-after s now c out out' d in
    let streams : (records_after c.core mid).streams ≡ r.streams =
    ap (streams_after c.core) (updated-streams c.record_update (records s)) ∙ sym (ap (λ (x : State). x.streams) is) ∙ held in
    let counts : mid.last ≡ r.last =
    updated-last s.book (records s) (in_force s.core) c.core c.record_update sound.1 ∙ sym (ap (λ (x : State). x.core.last) is) ∙ sym last in
    let same : records_after c.core mid ≡ r =
    ap (λ (ss : List Stream). record (records_after c.core mid) { streams = ss }) streams ∙ ap (λ (l : ℕ). record { streams = r.streams; last = l }) counts in
    subst (λ (x : Records). IsOpenFor x b) same (open-after c.core mid b opened)

-- what a block results in at its end is sound for the state whose parts these are, and leaves most counts as they are
pub block-made : (s : State) (book : List Entry) (config : Config) (core : ConnectionState) (r : Records) (id : ℕ) (ends : Bool) (fields : List Field) (purpose : Purpose) (c : Change) →
    book ≡ s.book → r.streams ≡ s.streams → r.last ≡ s.core.last → core ≡ s.core → c ≡ block_ends (state_of book config core s.block s.table r.streams) id ends fields purpose →
    IsSoundChange book r (in_force core) c → IsSoundChange s.book (records s) (in_force s.core) c × (c.core ≡ with_counts s.core c.core)
block-made s book config core r id ends fields purpose c same held last counts made sound =
    let is : r ≡ records s = ap (λ (ss : List Stream). record r { streams = ss }) held ∙ ap (λ (l : ℕ). record (records s) { last = l }) last in
    let counted = block-counted (state_of book config core s.block s.table r.streams) id ends fields purpose in (
      subst (λ (k : ConnectionState). IsSoundChange s.book (records s) (in_force k) c) counts
          (subst (λ (b : List Entry). IsSoundChange b (records s) (in_force core) c) same (subst (λ (x : Records). IsSoundChange book x (in_force core) c) is sound)),
      subst (λ (k : ConnectionState). c.core ≡ with_counts k c.core) counts (subst (λ (x : Change). x.core ≡ with_counts core x.core) (sym made) counted),
    )
