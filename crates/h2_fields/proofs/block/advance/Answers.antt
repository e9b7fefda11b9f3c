use Rattle.std.proofs.Common.{◌++◌, ℕ, List, length, take, IfErr, arith, refl, ap, ◌∙◌, sym, subst}
use Rattle.h2_spec.specs.Hpack.Block.{Decoded, Unfinished, decoded, progress_with}
use Rattle.h2_spec.specs.Hpack.DynamicTable.{LimitedTable}
use Rattle.h2_spec.specs.Hpack.Instruction.{instr_at}
use Rattle.h2_table.specs.Edits.{edited}
use Rattle.h2_hpack_instruction.specs.declared.fault.BlockFault.TheVariants as faults
use Rattle.h2_fields.specs.Applied.{IsStopped}
use Rattle.h2_fields.specs.Rests.{RestChange}
use Rattle.h2_fields.proofs.Outcomes.{ok_also, other_err}
use Rattle.h2_fields.proofs.Stopping.{grows-taken, memory-stopped, saved-restored, saved-size}
use Rattle.h2_fields.proofs.Ticking.{ticks-rise}
use Rattle.h2_fields.proofs.block.advance.Goals as goal

pub decode_piece-answer-requires : goal.decode_piece-answer-requires
decode_piece-answer-requires g c =
    let e = c.unchanged-change.ensures in
    record { fresh = ap (λ (r : RestChange). r.before) e ∙ sym (ap (λ (r : RestChange). r.all) e) }

pub restore-requires : goal.restore-requires
restore-requires g c =
    record { size = saved-size c.args.collected.now c.decode_piece-answer.new.collected c.savepoint-savepoint.result c.savepoint-savepoint.ensures c.decode_piece-answer.ensures.grows }

pub returns-then-eq-clause-copied : goal.returns-then-eq-clause-copied
returns-then-eq-clause-copied g c =
    let same = saved-restored c.args.collected.now c.decode_piece-answer.new.collected c.restore.new.self c.savepoint-savepoint.result c.savepoint-savepoint.ensures c.decode_piece-answer.ensures.grows c.restore.ensures in
    c.requires.copied ∙ sym (ap (λ s. s.fields) same)

pub returns-then-eq-clause-fault : goal.returns-then-eq-clause-fault
returns-then-eq-clause-fault g c = memory-stopped _ _ _ _

pub returns-then-eq-clause-unchanged : goal.returns-then-eq-clause-unchanged
returns-then-eq-clause-unchanged g c = λ _.
    let same = saved-restored c.args.collected.now c.decode_piece-answer.new.collected c.restore.new.self c.savepoint-savepoint.result c.savepoint-savepoint.ensures c.decode_piece-answer.ensures.grows c.restore.ensures in
    let was = ap (λ (r : RestChange). r.before) c.unchanged-change.ensures ∙ c.replace-before.ensures.value in
    (same, c.give_up.ensures ∙ c.decode_piece-answer.ensures.before ∙ was, refl, refl)

pub has_copied-requires : goal.has_copied-requires
has_copied-requires g c =
    let new = c.decode_piece-answer.new.collected in
    record { begins = ap (λ (fs : List _). take (length fs) new.fields) c.requires.copied ∙ grows-taken c.args.collected.now new c.decode_piece-answer.ensures.grows ∙ sym c.requires.copied }

pub restore-requires-then-not-has_copied : goal.restore-requires-then-not-has_copied
restore-requires-then-not-has_copied g c =
    record { size = saved-size c.args.collected.now c.decode_piece-answer.new.collected c.savepoint-savepoint.result c.savepoint-savepoint.ensures c.decode_piece-answer.ensures.grows }

pub returns-then-not-has_copied-clause-copied : goal.returns-then-not-has_copied-clause-copied
returns-then-not-has_copied-clause-copied g c =
    let same = saved-restored c.args.collected.now c.decode_piece-answer.new.collected c.restore-then-not-has_copied.new.self c.savepoint-savepoint.result c.savepoint-savepoint.ensures c.decode_piece-answer.ensures.grows c.restore-then-not-has_copied.ensures in
    c.if-not-has_copied.ensures.refused refl ∙ c.requires.copied ∙ sym (ap (λ s. s.fields) same)

pub returns-then-not-has_copied-clause-fault : goal.returns-then-not-has_copied-clause-fault
returns-then-not-has_copied-clause-fault g c = memory-stopped _ _ _ _

pub returns-then-not-has_copied-clause-unchanged : goal.returns-then-not-has_copied-clause-unchanged
returns-then-not-has_copied-clause-unchanged g c = λ _.
    let same = saved-restored c.args.collected.now c.decode_piece-answer.new.collected c.restore-then-not-has_copied.new.self c.savepoint-savepoint.result c.savepoint-savepoint.ensures c.decode_piece-answer.ensures.grows c.restore-then-not-has_copied.ensures in
    let was = ap (λ (r : RestChange). r.before) c.unchanged-change.ensures ∙ c.replace-before.ensures.value in
    (same, c.give_up-then-not-has_copied.ensures ∙ c.decode_piece-answer.ensures.before ∙ was, refl, refl)

pub commit-requires : goal.commit-requires
commit-requires g c = record { belongs = c.decode_piece-answer.ensures.belongs }

pub returns-clause-copied : goal.returns-clause-copied
returns-clause-copied g c = c.if-not-has_copied.ensures.copied refl

pub returns-clause-ok : goal.returns-clause-ok
returns-clause-ok g c =
    let answer = c.decode_piece-answer in
    let change = answer.new.rest in
    let was = ap (λ (r : RestChange). r.before) c.unchanged-change.ensures ∙ c.replace-before.ensures.value in
    let start = progress_with c.args.table.now.table c.args.collected.now in
    let end = λ (t : LimitedTable) (rest : List ℕ). let d : Decoded = record { progress = progress_with t.table answer.new.collected; outcome = Unfinished rest } in d in
    ok_also answer.result _ _ (λ ok e. ap (λ b. decoded c.args.table.now.limit start (b ++ c.args.piece.now)) (sym was) ∙ e
    ∙ ap (λ t. end t change.after) (sym c.commit.ensures) ∙ ap (end c.commit.new.self) (sym (c.left_of.ensures.decoded (c.is_ok.ensures.value ∙ ok)))) answer.ensures.decoded

pub returns-clause-cut : goal.returns-clause-cut
returns-clause-cut g c =
    ok_also c.decode_piece-answer.result _ _ (λ ok e. ap instr_at (c.left_of.ensures.decoded (c.is_ok.ensures.value ∙ ok)) ∙ e) c.decode_piece-answer.ensures.cut

pub returns-clause-ticks : goal.returns-clause-ticks
returns-clause-ticks g c =
    let change = c.decode_piece-answer.new.rest in
    let was = ap (λ (r : RestChange). r.before) c.unchanged-change.ensures ∙ c.replace-before.ensures.value in
    let decoded = rw was at c.decode_piece-answer.ensures.ticks in
    ticks-rise c.decode_piece-answer.result c.args.ticks.now c.saturating_add-2.result (length c.args.piece.now) (length c.args.rest.now) (length change.after) change.ticks (length c.left_of.result)
    (λ below. omega arith) (omega arith) (λ ok. ap length (c.left_of.ensures.decoded (c.is_ok.ensures.value ∙ ok))) decoded

pub returns-clause-fault : goal.returns-clause-fault
returns-clause-fault g c =
    let answer = c.decode_piece-answer in
    let was = ap (λ (r : RestChange). r.before) c.unchanged-change.ensures ∙ c.replace-before.ensures.value in
    let limit = c.args.table.now.limit in
    let start = progress_with c.args.table.now.table c.args.collected.now in
    let stopped = λ (b : List ℕ) (t : LimitedTable). IfErr answer.result (IsStopped limit start (b ++ c.args.piece.now) (progress_with t.table answer.new.collected)) in
    subst (stopped c.args.rest.now) (sym c.commit.ensures) (subst (λ b. stopped b (record c.args.table.now { table = edited c.args.table.now.table.entries answer.new.edit })) was answer.ensures.fault)

pub returns-clause-unchanged : goal.returns-clause-unchanged
returns-clause-unchanged g c = λ h. absurd (other_err _ _ c.decode_piece-answer.result faults.NoMemory refl c.if-eq.ensures h)

pub returns-clause-limit : goal.returns-clause-limit
returns-clause-limit g c = ap (λ (t : LimitedTable). t.limit) c.commit.ensures
