-- What a fragment that is decoded results in.
use Rattle.std.proofs.Common.{◌≡◌, ◌≢◌, ℕ, Bool, true, false, cond, not, ◌+◌, nat_lt, List, ◌++◌, length, Option, Some, None, refl, sym, ap, subst, ◌∙◌}
use Rattle.std.specs.Prelude.{◌==◌}
use Rattle.std.proofs.lemmas.Option.{none-some}
use Rattle.h2_fields.specs.Blocks.{faulted}
use Rattle.h2_hpack_instruction.specs.declared.fault.BlockFault.{BlockFault}
use Rattle.h2_hpack_instruction.specs.declared.fault.BlockFault.TheVariants as fault
use Rattle.h2_spec.specs.declared.connection.BlockView.{BlockView}
use Rattle.h2_spec.specs.declared.connection.Config.{Config}
use Rattle.h2_spec.specs.declared.connection.ConnectionState.{ConnectionState}
use Rattle.h2_spec.specs.declared.connection.Purpose.{Purpose}
use Rattle.h2_spec.specs.declared.causes.Cause.{Cause}
use Rattle.h2_spec.specs.declared.causes.Cause.TheVariants.{BlockTooLarge, BlockTruncated, SizeUpdateMissing}
use Rattle.h2_spec.specs.declared.reactions.Change.{Change}
use Rattle.h2_spec.specs.declared.streams.Stream.{Stream}
use Rattle.h2_hpack_instruction.specs.Faults.{fault_of}
use Rattle.h2_spec.specs.Requests.Answer.{Entry}
use Rattle.h2_spec.specs.Hpack.Block.{Fault, ZeroIndex, Index, Integer, Huffman, LateUpdate, LargeUpdate, MissingUpdate, Decoded, Faulty, Outcome, Unfinished, decoded, list_size}
use Rattle.h2_spec.specs.Hpack.DynamicTable.{Table}
use Rattle.h2_spec.specs.Requests.Headers as headers
use Rattle.h2_spec.specs.Requests.Headers.{FrameEffect, fragment_decoded, fragment_read, fault_cause}
use Rattle.h2_spec.specs.State as state
use Rattle.h2_conn_rules.specs.Block.{cause_by, refused_end}
use Rattle.h2_conn_rules.specs.Open.{state_of}
use Rattle.h2_conn.specs.OpenBlocks.{bad_end}
use Rattle.h2_conn.specs.Fragments.{HasFault, after_fragment, before_fragment}

-- the cause of a fault of the octets
cause-named : (x : Fault) → cause_by (fault_of x) ≡ Some (fault_cause x)
cause-named ZeroIndex = refl
cause-named Index = refl
cause-named Integer = refl
cause-named Huffman = refl
cause-named LateUpdate = refl
cause-named LargeUpdate = refl
cause-named MissingUpdate = refl

-- a fault that is found is one of the octets, and its cause is that of the definitions
has-fault : (o : Outcome) (f : BlockFault) (cause : Cause) → faulted o ≡ Some f → cause_by f ≡ Some cause → (x : Fault) × (o ≡ Faulty x) × (fault_cause x ≡ cause)
has-fault (Unfinished rest) f cause h k = absurd (none-some f h)
has-fault (Faulty x) f cause h k =
    let named : fault_of x ≡ f = cc in
    let same : Some (fault_cause x) ≡ Some cause = sym (cause-named x) ∙ ap cause_by named ∙ k in
    (x, refl, cc)

-- a fault that has a cause is not that memory was refused
pub not-memory : (f : BlockFault) (cause : Cause) → cause_by f ≡ Some cause → f ≢ fault.NoMemory
not-memory f cause h e = none-some cause (sym (ap cause_by e) ∙ h)

-- a block with a fault
decoded-faulty : (s : state.State) (b : BlockView) (purpose : Purpose) (ends : Bool) (d : Decoded) (x : Fault) → d.outcome ≡ Faulty x → fragment_decoded s b purpose ends d ≡ headers.Breaks (fault_cause x)
decoded-faulty s b purpose ends d x e = rw e refl

-- a fragment that has a fault
pub fragment-faulty : (s : state.State) (b : BlockView) (d : state.Decoding) (octets : List ℕ) (ends : Bool) (f : BlockFault) (cause : Cause) →
    nat_lt 65536 (b.octets + length octets) ≡ false → HasFault f (decoded s.core.own.table (before_fragment s.table d) (d.rest ++ octets)) → cause_by f ≡ Some cause →
    headers.fragment s b d octets ends ≡ headers.Breaks cause
fragment-faulty s b d octets ends f cause few h k =
    let view : BlockView = record b { octets = b.octets + length octets } in
    let now : Decoded = decoded s.core.own.table (before_fragment s.table d) (d.rest ++ octets) in
    let found = has-fault now.outcome f cause h k in
    ap (λ t. cond t (headers.Breaks BlockTooLarge) (fragment_decoded s view d.purpose ends now)) few
    ∙ decoded-faulty s view d.purpose ends now found.0 found.1
    ∙ ap (λ (c : Cause). let e : FrameEffect = headers.Breaks c in e) found.2

-- a fragment that is decoded up to the beginning of an instruction
pub fragment-read : (s : state.State) (b : BlockView) (d after : state.Decoding) (octets : List ℕ) (ends : Bool) (table : Table) (size : ℕ) →
    nat_lt 65536 (b.octets + length octets) ≡ false → after.purpose ≡ d.purpose → size ≡ list_size after.fields →
    decoded s.core.own.table (before_fragment s.table d) (d.rest ++ octets) ≡ after_fragment table after →
    headers.fragment s b d octets ends ≡ fragment_read (record s { table = table }) (record b { octets = b.octets + length octets; list_size = size }) after ends
fragment-read s b d after octets ends table size few purpose counts e =
    let view : BlockView = record b { octets = b.octets + length octets } in
    let now : state.State = record s { table = table } in
    ap (λ t. cond t (headers.Breaks BlockTooLarge) (fragment_decoded s view d.purpose ends (decoded s.core.own.table (before_fragment s.table d) (d.rest ++ octets)))) few
    ∙ ap (λ x. fragment_decoded s view d.purpose ends x) e
    ∙ ap (λ (n : ℕ). fragment_read now (record view { list_size = n }) (record after { purpose = d.purpose }) ends) (sym counts)
    ∙ ap (λ (p : Purpose). fragment_read now (record view { list_size = size }) (record after { purpose = p }) ends) (sym purpose)

-- a block that can't end
pub ends-badly : (s : state.State) (b : BlockView) (d : state.Decoding) (cause : Cause) → bad_end d ≡ Some cause → headers.fragment_read s b d true ≡ headers.Breaks cause
ends-badly s b d cause h = by (length d.rest == 0) d.due h
  where
    breaks : (one : Cause) → (let o : Option Cause = Some one in o) ≡ Some cause → (let e : FrameEffect = headers.Breaks one in e) ≡ headers.Breaks cause
    breaks one e = cc

    by : (whole due : Bool) → refused_end whole due ≡ Some cause →
        cond (not whole) (headers.Breaks BlockTruncated) (cond due (headers.Breaks SizeUpdateMissing) (headers.Makes (headers.with_block s None) (headers.block_ends s b.stream b.ends d.fields d.purpose))) ≡ headers.Breaks cause
    by false due e = breaks BlockTruncated e
    by true true e = breaks SizeUpdateMissing e
    by true false e = absurd (none-some cause e)

-- a block that ends well, in a state of these parts: what it results in is made
pub ends-well : (s : state.State) (b : BlockView) (d : state.Decoding) (book : List Entry) (config : Config) (core : ConnectionState) (streams : List Stream) (c : Change) → bad_end d ≡ None →
    state_of book config core s.block s.table streams ≡ s → c ≡ headers.block_ends (state_of book config core s.block s.table streams) b.stream b.ends d.fields d.purpose →
    headers.fragment_read s b d true ≡ headers.Makes (headers.with_block s None) c
ends-well s b d book config core streams c h same made =
    let is : c ≡ headers.block_ends s b.stream b.ends d.fields d.purpose = subst (λ (x : state.State). c ≡ headers.block_ends x b.stream b.ends d.fields d.purpose) same made in
    by (length d.rest == 0) d.due h ∙ ap (λ (x : Change). let e : FrameEffect = headers.Makes (headers.with_block s None) x in e) (sym is)
  where
    by : (whole due : Bool) → refused_end whole due ≡ None →
        cond (not whole) (headers.Breaks BlockTruncated) (cond due (headers.Breaks SizeUpdateMissing) (headers.Makes (headers.with_block s None) (headers.block_ends s b.stream b.ends d.fields d.purpose)))
        ≡ headers.Makes (headers.with_block s None) (headers.block_ends s b.stream b.ends d.fields d.purpose)
    by false due e = absurd (none-some BlockTruncated (sym e))
    by true true e = absurd (none-some SizeUpdateMissing (sym e))
    by true false e = refl
