use Rattle.std.proofs.Common.{◌≡◌, ◌≢◌, ◌+◌, ◌++◌, ℕ, length, take, false, true, nat_lt, Some, ap, sym, subst, ◌∙◌}
use Rattle.std.proofs.Math.Seq.{take-length}
use Rattle.std.specs.Prelude.{IfErr, OnOk}
use Rattle.h2_spec.specs.Hpack.Block.{Decoded, decoded, list_size}
use Rattle.h2_spec.specs.State.{State}
use Rattle.h2_table.specs.Edits.{IsEdit, edited}
use Rattle.h2_fields.specs.declared.collected.Savepoint.{Savepoint}
use Rattle.h2_hpack_instruction.specs.declared.fault.BlockFault.TheVariants.{NoMemory}
use Rattle.h2_conn_rules.specs.Block.{cause_by}
use Rattle.h2_conn.specs.Blocks.{limited}
use Rattle.h2_conn.specs.Fragments.{HasFault, after_fragment, after_of, before_fragment, before_of}
use Rattle.h2_conn.proofs.FragmentLaws.{fragment-faulty, fragment-read, not-memory}
use Rattle.h2_conn.proofs.ShownLaws.{fields-kept, fields-read}
use Rattle.h2_conn.proofs.state.State.fragment.Goals as goal

pub returns-in-Ok-clause-effect : goal.returns-in-Ok-clause-effect
returns-in-Ok-clause-effect g c = λ end_headers.
    let a = c.args in
    let table = c.self.inside.table in
    let decoded_is = c.decode in
    let before = before_of a.decoding.now a.tentative.now in
    let now = after_of decoded_is.new.self decoded_is.new.tentative in
    let edit = decoded_is.new.edit in
    let s = a.self.now in
    let few : nat_lt 65536 (a.shown.octets + length a.octets.now) ≡ false = sym c.is_block_too_large.ensures ∙ c.if-is_block_too_large.false in
    let done = subst (λ r. OnOk r (decoded table.limit (before_fragment table.table before) (a.tentative.now.before ++ a.octets.now) ≡ after_fragment (edited table.table.entries edit) now)) c.in-Ok.is decoded_is.ensures.decoded in
    let held = subst (λ (l : ℕ). decoded l (before_fragment table.table before) (a.tentative.now.before ++ a.octets.now) ≡ after_fragment (edited table.table.entries edit) now) c.self.invariant.1 done in
    let is = subst (λ (x : State). decoded x.core.own.table (before_fragment x.table before) (a.tentative.now.before ++ a.octets.now) ≡ after_fragment (edited x.table.entries edit) now) c.self.view_is held in
    let size : c.list_size.result ≡ list_size now.fields = c.list_size.ensures in
    sym (fragment-read s a.shown before now a.octets.now end_headers (edited s.table.entries edit) c.list_size.result few decoded_is.ensures.purpose size is)

pub returns-in-Ok-clause-belongs : goal.returns-in-Ok-clause-belongs
returns-in-Ok-clause-belongs g c =
    let table = c.self.inside.table in
    let edit = c.decode.new.edit in
    let held = subst (λ (l : ℕ). IsEdit (limited l table.table) edit) c.self.invariant.1 c.decode.ensures.belongs in
    subst (λ (x : State). IsEdit (limited x.core.own.table x.table) edit) c.self.view_is held

pub returns-in-Some-clause-belongs : goal.returns-in-Some-clause-belongs
returns-in-Some-clause-belongs g c =
    let table = c.self.inside.table in
    let edit = c.decode.new.edit in
    let held = subst (λ (l : ℕ). IsEdit (limited l table.table) edit) c.self.invariant.1 c.decode.ensures.belongs in
    subst (λ (x : State). IsEdit (limited x.core.own.table x.table) edit) c.self.view_is held

pub returns-then-is_block_too_large-clause-belongs : goal.returns-then-is_block_too_large-clause-belongs
returns-then-is_block_too_large-clause-belongs g c =
    let table = c.self.inside.table in
    let edit = c.begin.new.self in
    let held = subst (λ (l : ℕ). IsEdit (limited l table.table) edit) c.self.invariant.1 c.begin.ensures.belongs in
    subst (λ (x : State). IsEdit (limited x.core.own.table x.table) edit) c.self.view_is held

pub returns-in-Some-clause-effect : goal.returns-in-Some-clause-effect
returns-in-Some-clause-effect g c = λ end_headers.
    let a = c.args in
    let table = c.self.inside.table in
    let decoded_is = c.decode in
    let before = before_of a.decoding.now a.tentative.now in
    let s = a.self.now in
    let few : nat_lt 65536 (a.shown.octets + length a.octets.now) ≡ false = sym c.is_block_too_large.ensures ∙ c.if-is_block_too_large.false in
    let named : cause_by c.in-Err.fault ≡ Some c.in-Some.cause = sym c.fault_cause.ensures ∙ c.in-Some.is in
    let found = subst (λ r. IfErr r (λ fault. fault ≢ NoMemory → HasFault fault (decoded table.limit (before_fragment table.table before) (a.tentative.now.before ++ a.octets.now)))) c.in-Err.is decoded_is.ensures.faulty in
    let held = subst (λ (l : ℕ). HasFault c.in-Err.fault (decoded l (before_fragment table.table before) (a.tentative.now.before ++ a.octets.now))) c.self.invariant.1 (found (not-memory c.in-Err.fault c.in-Some.cause named)) in
    let has = subst (λ (x : State). HasFault c.in-Err.fault (decoded x.core.own.table (before_fragment x.table before) (a.tentative.now.before ++ a.octets.now))) c.self.view_is held in
    sym (fragment-faulty s a.shown before a.octets.now end_headers c.in-Err.fault c.in-Some.cause few has named)

pub returns-then-is_block_too_large-clause-sized : goal.returns-then-is_block_too_large-clause-sized
returns-then-is_block_too_large-clause-sized g c =
    let fields = c.args.decoding.now.fields in
    let is = c.requires.untouched.0 in
    let all : take c.args.tentative.now.savepoint.count fields ≡ fields = ap (λ (m : Savepoint). take m.count fields) is ∙ take-length fields in
    ap (λ (m : Savepoint). m.size) is ∙ ap list_size (sym all)

pub returns-in-Ok-clause-fields : goal.returns-in-Ok-clause-fields
returns-in-Ok-clause-fields g c =
    let a = c.args in
    let table = c.self.inside.table in
    let decoded_is = c.decode in
    let before = before_of a.decoding.now a.tentative.now in
    let now = after_of decoded_is.new.self decoded_is.new.tentative in
    let edit = decoded_is.new.edit in
    let few : nat_lt 65536 (a.shown.octets + length a.octets.now) ≡ false = sym c.is_block_too_large.ensures ∙ c.if-is_block_too_large.false in
    let done = subst (λ r. OnOk r (decoded table.limit (before_fragment table.table before) (a.tentative.now.before ++ a.octets.now) ≡ after_fragment (edited table.table.entries edit) now)) c.in-Ok.is decoded_is.ensures.decoded in
    let held = subst (λ (l : ℕ). (decoded l (before_fragment table.table before) (a.tentative.now.before ++ a.octets.now)).progress.fields ≡ decoded_is.new.self.fields) c.self.invariant.1 (ap (λ (d : Decoded). d.progress.fields) done) in
    let is = subst (λ (x : State). (decoded x.core.own.table (before_fragment x.table before) (a.tentative.now.before ++ a.octets.now)).progress.fields ≡ decoded_is.new.self.fields) c.self.view_is held in
    fields-read a.self.now a.shown before a.octets.now decoded_is.new.self.fields few is

pub returns-in-Some-clause-fields : goal.returns-in-Some-clause-fields
returns-in-Some-clause-fields g c =
    let a = c.args in
    let table = c.self.inside.table in
    let decoded_is = c.decode in
    let before = before_of a.decoding.now a.tentative.now in
    let few : nat_lt 65536 (a.shown.octets + length a.octets.now) ≡ false = sym c.is_block_too_large.ensures ∙ c.if-is_block_too_large.false in
    let named : cause_by c.in-Err.fault ≡ Some c.in-Some.cause = sym c.fault_cause.ensures ∙ c.in-Some.is in
    let found = subst (λ r. IfErr r (λ fault. fault ≢ NoMemory → (decoded table.limit (before_fragment table.table before) (a.tentative.now.before ++ a.octets.now)).progress.fields ≡ decoded_is.new.self.fields)) c.in-Err.is decoded_is.ensures.read in
    let held = subst (λ (l : ℕ). (decoded l (before_fragment table.table before) (a.tentative.now.before ++ a.octets.now)).progress.fields ≡ decoded_is.new.self.fields) c.self.invariant.1 (found (not-memory c.in-Err.fault c.in-Some.cause named)) in
    let is = subst (λ (x : State). (decoded x.core.own.table (before_fragment x.table before) (a.tentative.now.before ++ a.octets.now)).progress.fields ≡ decoded_is.new.self.fields) c.self.view_is held in
    fields-read a.self.now a.shown before a.octets.now decoded_is.new.self.fields few is

pub returns-then-is_block_too_large-clause-fields : goal.returns-then-is_block_too_large-clause-fields
returns-then-is_block_too_large-clause-fields g c =
    let a = c.args in
    let fields = a.decoding.now.fields in
    let many : nat_lt 65536 (a.shown.octets + length a.octets.now) ≡ true = sym c.is_block_too_large.ensures ∙ c.if-is_block_too_large.true in
    let all : take a.tentative.now.savepoint.count fields ≡ fields = ap (λ (m : Savepoint). take m.count fields) c.requires.untouched.0 ∙ take-length fields in
    sym all ∙ fields-kept a.self.now a.shown (before_of a.decoding.now a.tentative.now) a.octets.now many
