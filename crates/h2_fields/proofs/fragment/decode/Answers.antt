use Rattle.std.proofs.Common.{◌≡◌, ◌==◌, true, ℕ, Err, refl, ap, ◌∙◌, sym, subst, arith, length, drop, ◌+◌, length-drop}
use Rattle.std.proofs.lemmas.Bool.{eqb-true}
use Rattle.std.proofs.lemmas.Result.{IfOk-from_err, err_from_is_err_and}
use Rattle.h2_spec.specs.Hpack.Instruction as spec
use Rattle.h2_spec.specs.Hpack.Instruction.{Indexed, instr_at}
use Rattle.h2_spec.proofs.BlockLaws.{leads-start, leads-step, leads-more}
use Rattle.h2_fields.specs.Applied.{progress_in}
use Rattle.h2_hpack_instruction.specs.Resume.{IfMore, IsPoint, IsRest, IsTaken, huffman_octets}
use Rattle.h2_hpack_instruction.specs.Shapes.{shape_of, read_of}
use Rattle.h2_hpack_instruction.specs.declared.shape.Shape.{Shape}
use Rattle.h2_fields.specs.Rests.{IsCounted}
use Rattle.h2_fields.proofs.Counting.{counts, counts-rest}
use Rattle.h2_fields.proofs.Outcomes.{if_err}
use Rattle.h2_fields.proofs.Stopping.{empty-more, grows-start, grows-then, refused-stopped, start-rest, too_long-stopped}
use Rattle.h2_fields.proofs.FoundFaults.{fewer}
use Rattle.h2_fields.proofs.fragment.decode.Goals as goal

pub loop-left-init : goal.loop-left-init
loop-left-init g c =
    let p = progress_in c.args.collected.now c.args.table.now c.args.edit.now in
    record {
      belongs = c.requires.belongs;
      leads = leads-start c.args.table.now.limit p c.args.octets.now;
      grows = grows-start c.args.collected.now;
      point = c.requires.point;
      passed = omega (arith, c.requires.passed);
      stays = refl;
      counted = (λ _. omega arith, omega arith);
    }

pub returns-in_err-apply-in-Ok-clause-fault : goal.returns-in_err-apply-in-Ok-clause-fault
returns-in_err-apply-in-Ok-clause-fault g c =
    let r = err_from_is_err_and c.from_residual-in_err-apply-in-Ok.result c.from_residual-in_err-apply-in-Ok.ensures.1 in
    let p = progress_in c.args.collected.now c.args.table.now c.args.edit.now in
    let q = progress_in c.loop-left.collected c.args.table.now c.loop-left.edit in
    let e = ap instr_at (sym c.octets_from-left.ensures) ∙ sym c.in-Ok.ensures.read in
    rw (r.1, r.2) (refused-stopped c.args.table.now.limit c.args.table.now.limit p q _ c.args.octets.now c.loop-left.at c.in-Ok.used (shape_of c.in-Ok.shape) _ c.loop-left.invariant.leads refl e c.in_err-apply-in-Ok.ensures.applied)

pub loop-left-smaller : goal.loop-left-smaller
loop-left-smaller g c =
    let e = ap instr_at (sym c.octets_from-left.ensures) ∙ sym c.in-Ok.ensures.read in
    fewer c.args.octets.now c.loop-left.at c.in-Ok.used (shape_of c.in-Ok.shape) c.loop-left.invariant.leads.within e

pub loop-left-preserved : goal.loop-left-preserved
loop-left-preserved g c =
    let limit = c.args.table.now.limit in
    let p = progress_in c.args.collected.now c.args.table.now c.args.edit.now in
    let q = progress_in c.loop-left.collected c.args.table.now c.loop-left.edit in
    let e = ap instr_at (sym c.octets_from-left.ensures) ∙ sym c.in-Ok.ensures.read in
    let taken = subst (λ b. IsTaken b c.loop-left.point.passed (shape_of c.in-Ok.shape) c.in-Ok.used) c.octets_from-left.ensures c.in-Ok.ensures.taken in
    record {
      belongs = c.in_ok-apply-in-Ok.ensures.belongs;
      leads = leads-step limit p q _ c.args.octets.now c.loop-left.at c.in-Ok.used (shape_of c.in-Ok.shape) c.loop-left.invariant.leads e c.in_ok-apply-in-Ok.ensures.applied;
      grows = grows-then c.args.collected.now c.loop-left.collected c.apply.new.collected c.loop-left.invariant.grows c.in_ok-apply-in-Ok.ensures.grows;
      point = c.start-point-in-Ok.ensures.anywhere (drop (c.loop-left.at + c.in-Ok.used) c.args.octets.now);
      passed = omega (arith, c.start-point-in-Ok.ensures.passed, taken.within, c.loop-left.invariant.leads.within, length-drop c.loop-left.at c.args.octets.now);
      stays = c.loop-left.invariant.stays;
      counted = counts c.args.from.passed c.loop-left.point.passed c.start-point-in-Ok.result.passed c.loop-left.at c.in-Ok.used (huffman_octets (shape_of c.in-Ok.shape)) c.args.ticks.now c.loop-left.ticks c.with_instruction-in-Ok.result
          c.loop-left.invariant.counted taken.passed taken.huffman c.start-point-in-Ok.ensures.passed c.with_instruction-in-Ok.ensures;
    }

pub returns-in-Err-More-clause-used : goal.returns-in-Err-More-clause-used
returns-in-Err-More-clause-used g c =
    let p = progress_in c.args.collected.now c.args.table.now c.args.edit.now in
    let q = progress_in c.loop-left.collected c.args.table.now c.loop-left.edit in
    let e = ap instr_at (sym c.octets_from-left.ensures) ∙ sym c.in-Err-More.ensures.read ∙ ap (λ x. read_of shape_of (Err x)) c.in-Err-More.field-0-is in
    (c.loop-left.invariant.leads.within, leads-more c.args.table.now.limit p q c.args.octets.now c.loop-left.at c.loop-left.invariant.leads e)

pub returns-in-Err-TooLong-clause-fault : goal.returns-in-Err-TooLong-clause-fault
returns-in-Err-TooLong-clause-fault g c =
    let p = progress_in c.args.collected.now c.args.table.now c.args.edit.now in
    let q = progress_in c.loop-left.collected c.args.table.now c.loop-left.edit in
    let e = ap instr_at (sym c.octets_from-left.ensures) ∙ sym c.in-Err-TooLong.ensures.read ∙ ap (λ x. read_of shape_of (Err x)) c.in-Err-TooLong.field-0-is in
    too_long-stopped c.args.table.now.limit p q c.args.octets.now c.loop-left.at c.loop-left.invariant.leads e

pub returns-in-Err-More-clause-rest : goal.returns-in-Err-More-clause-rest
returns-in-Err-More-clause-rest g c =
    let stop = c.in-Err-More.stop in
    let rest = subst (λ x. IfMore {A = Shape × ℕ} (Err x) (λ p. IsRest c.octets_from-left.result.now p)) c.in-Err-More.field-0-is c.in-Err-More.ensures.rest in
    subst (λ b. IsRest b stop) c.octets_from-left.ensures rest

pub returns-in-Err-More-clause-ticks : goal.returns-in-Err-More-clause-ticks
returns-in-Err-More-clause-ticks g c =
    let octets = c.args.octets.now in
    let at = c.loop-left.at in
    let left = length c.octets_from-left.result.now in
    let is : at + left ≡ length octets = omega (arith, ap length c.octets_from-left.ensures, length-drop at octets, c.loop-left.invariant.leads.within) in
    counts-rest c.args.from.passed c.loop-left.point.passed at left (length octets) c.args.ticks.now c.loop-left.ticks c.saturating_add.result c.loop-left.invariant.counted
    (omega (arith, is, c.loop-left.invariant.passed)) is c.saturating_add.ensures

pub returns-in_err-apply_indexed-clause-fault : goal.returns-in_err-apply_indexed-clause-fault
returns-in_err-apply_indexed-clause-fault g c =
    let r = err_from_is_err_and c.from_residual.result c.from_residual.ensures.1 in
    let p = progress_in c.args.collected.now c.args.table.now c.args.edit.now in
    let q = progress_in c.loop-left.collected c.args.table.now c.loop-left.edit in
    let e = ap instr_at (sym c.octets_from-left.ensures) ∙ c.in-Some.ensures.read in
    rw (r.1, r.2) (refused-stopped c.args.table.now.limit c.args.table.now.limit p q _ c.args.octets.now c.loop-left.at 1 (Indexed c.in-Some.index) _ c.loop-left.invariant.leads refl e c.in_err-apply_indexed.ensures.applied)

pub loop-left-preserved-in-Some : goal.loop-left-preserved-in-Some
loop-left-preserved-in-Some g c =
    let limit = c.args.table.now.limit in
    let p = progress_in c.args.collected.now c.args.table.now c.args.edit.now in
    let q = progress_in c.loop-left.collected c.args.table.now c.loop-left.edit in
    let shape : spec.Shape = Indexed c.in-Some.index in
    let e = ap instr_at (sym c.octets_from-left.ensures) ∙ c.in-Some.ensures.read in
    let taken = subst (λ b. IsTaken b c.loop-left.point.passed shape 1) c.octets_from-left.ensures c.in-Some.ensures.taken in
    record {
      belongs = c.loop-left.invariant.belongs;
      leads = leads-step limit p q _ c.args.octets.now c.loop-left.at 1 shape c.loop-left.invariant.leads e c.in_ok-apply_indexed.ensures.applied;
      grows = grows-then c.args.collected.now c.loop-left.collected c.apply_indexed.new.collected c.loop-left.invariant.grows c.in_ok-apply_indexed.ensures.grows;
      point = c.start-point.ensures.anywhere (drop (c.loop-left.at + 1) c.args.octets.now);
      passed = omega (arith, c.start-point.ensures.passed, taken.within, c.loop-left.invariant.leads.within, length-drop c.loop-left.at c.args.octets.now);
      stays = c.loop-left.invariant.stays;
      counted = counts c.args.from.passed c.loop-left.point.passed c.start-point.result.passed c.loop-left.at 1 0 c.args.ticks.now c.loop-left.ticks c.with_instruction.result
          c.loop-left.invariant.counted taken.passed taken.huffman c.start-point.ensures.passed c.with_instruction.ensures;
    }

pub returns-then-is_empty-clause-cut : goal.returns-then-is_empty-clause-cut
returns-then-is_empty-clause-cut g c = ap instr_at (sym c.octets_from-left.ensures) ∙ empty-more c.octets_from-left.result.now (sym c.is_empty.ensures ∙ c.if-is_empty.true)

pub octets_from-left-requires : goal.octets_from-left-requires
octets_from-left-requires g c = c.loop-left.invariant.leads.within

pub returns-then-is_empty-clause-used : goal.returns-then-is_empty-clause-used
returns-then-is_empty-clause-used g c =
    let p = progress_in c.args.collected.now c.args.table.now c.args.edit.now in
    let q = progress_in c.loop-left.collected c.args.table.now c.loop-left.edit in
    let e = ap instr_at (sym c.octets_from-left.ensures) ∙ empty-more c.octets_from-left.result.now (sym c.is_empty.ensures ∙ c.if-is_empty.true) in
    (c.loop-left.invariant.leads.within, leads-more c.args.table.now.limit p q c.args.octets.now c.loop-left.at c.loop-left.invariant.leads e)

pub returns-then-is_empty-clause-rest : goal.returns-then-is_empty-clause-rest
returns-then-is_empty-clause-rest g c =
    let left = drop c.loop-left.at c.args.octets.now in
    start-rest left c.start.result (c.start.ensures.anywhere left) c.start.ensures.passed
    (subst (λ b. (length b == 0) ≡ true) c.octets_from-left.ensures (sym c.is_empty.ensures ∙ c.if-is_empty.true))

pub returns-then-is_empty-clause-ticks : goal.returns-then-is_empty-clause-ticks
returns-then-is_empty-clause-ticks g c =
    let none = eqb-true (length c.octets_from-left.result.now) 0 (sym c.is_empty.ensures ∙ c.if-is_empty.true) in
    let all : c.loop-left.at + c.loop-left.point.passed ≡ length c.args.octets.now = omega (arith, none, ap length c.octets_from-left.ensures, length-drop c.loop-left.at c.args.octets.now, c.loop-left.invariant.leads.within, c.loop-left.invariant.passed) in
    subst (λ n. IsCounted c.args.from.passed n c.loop-left.at c.args.ticks.now c.loop-left.ticks) all c.loop-left.invariant.counted

pub returns-then-is_empty-clause-grows : goal.returns-then-is_empty-clause-grows
returns-then-is_empty-clause-grows g c = c.loop-left.invariant.grows

pub apply_indexed-requires : goal.apply_indexed-requires
apply_indexed-requires g c = record { belongs = c.loop-left.invariant.belongs }

pub returns-in_err-apply_indexed-clause-used : goal.returns-in_err-apply_indexed-clause-used
returns-in_err-apply_indexed-clause-used g c = IfOk-from_err c.from_residual.result _ c.from_residual.ensures.0

pub returns-in_err-apply_indexed-clause-cut : goal.returns-in_err-apply_indexed-clause-cut
returns-in_err-apply_indexed-clause-cut g c = IfOk-from_err c.from_residual.result _ c.from_residual.ensures.0

pub returns-in_err-apply_indexed-clause-rest : goal.returns-in_err-apply_indexed-clause-rest
returns-in_err-apply_indexed-clause-rest g c = IfOk-from_err c.from_residual.result _ c.from_residual.ensures.0

pub returns-in_err-apply_indexed-clause-ticks : goal.returns-in_err-apply_indexed-clause-ticks
returns-in_err-apply_indexed-clause-ticks g c = IfOk-from_err c.from_residual.result _ c.from_residual.ensures.0

pub returns-in_err-apply_indexed-clause-stays : goal.returns-in_err-apply_indexed-clause-stays
returns-in_err-apply_indexed-clause-stays g c = if_err c.from_residual.result _ c.loop-left.invariant.stays

pub returns-in_err-apply_indexed-clause-grows : goal.returns-in_err-apply_indexed-clause-grows
returns-in_err-apply_indexed-clause-grows g c =
    grows-then c.args.collected.now c.loop-left.collected c.apply_indexed.new.collected c.loop-left.invariant.grows c.apply_indexed.ensures.grows

pub overflow_sub-point : goal.overflow_sub-point
overflow_sub-point g c = c.in-Some.ensures.taken.passed

pub loop-left-smaller-in-Some : goal.loop-left-smaller-in-Some
loop-left-smaller-in-Some g c =
    let e = ap instr_at (sym c.octets_from-left.ensures) ∙ c.in-Some.ensures.read in
    fewer c.args.octets.now c.loop-left.at 1 (Indexed c.in-Some.index) c.loop-left.invariant.leads.within e

pub shape_from-requires : goal.shape_from-requires
shape_from-requires g c = record { point = subst (λ b. IsPoint b c.loop-left.point) (sym c.octets_from-left.ensures) c.loop-left.invariant.point }

pub apply-requires : goal.apply-requires
apply-requires g c = record { belongs = c.loop-left.invariant.belongs }

pub returns-in_err-apply-in-Ok-clause-used : goal.returns-in_err-apply-in-Ok-clause-used
returns-in_err-apply-in-Ok-clause-used g c = IfOk-from_err c.from_residual-in_err-apply-in-Ok.result _ c.from_residual-in_err-apply-in-Ok.ensures.0

pub returns-in_err-apply-in-Ok-clause-cut : goal.returns-in_err-apply-in-Ok-clause-cut
returns-in_err-apply-in-Ok-clause-cut g c = IfOk-from_err c.from_residual-in_err-apply-in-Ok.result _ c.from_residual-in_err-apply-in-Ok.ensures.0

pub returns-in_err-apply-in-Ok-clause-rest : goal.returns-in_err-apply-in-Ok-clause-rest
returns-in_err-apply-in-Ok-clause-rest g c = IfOk-from_err c.from_residual-in_err-apply-in-Ok.result _ c.from_residual-in_err-apply-in-Ok.ensures.0

pub returns-in_err-apply-in-Ok-clause-ticks : goal.returns-in_err-apply-in-Ok-clause-ticks
returns-in_err-apply-in-Ok-clause-ticks g c = IfOk-from_err c.from_residual-in_err-apply-in-Ok.result _ c.from_residual-in_err-apply-in-Ok.ensures.0

pub returns-in_err-apply-in-Ok-clause-stays : goal.returns-in_err-apply-in-Ok-clause-stays
returns-in_err-apply-in-Ok-clause-stays g c = if_err c.from_residual-in_err-apply-in-Ok.result _ c.loop-left.invariant.stays

pub returns-in_err-apply-in-Ok-clause-grows : goal.returns-in_err-apply-in-Ok-clause-grows
returns-in_err-apply-in-Ok-clause-grows g c =
    grows-then c.args.collected.now c.loop-left.collected c.apply.new.collected c.loop-left.invariant.grows c.apply.ensures.grows

pub overflow_sub-used : goal.overflow_sub-used
overflow_sub-used g c = c.in-Ok.ensures.taken.passed

pub overflow_sub-left : goal.overflow_sub-left
overflow_sub-left g c =
    omega (arith, ap length c.octets_from-left.ensures, length-drop c.loop-left.at c.args.octets.now, c.loop-left.invariant.leads.within, c.loop-left.invariant.passed)

pub returns-in-Err-More-clause-cut : goal.returns-in-Err-More-clause-cut
returns-in-Err-More-clause-cut g c =
    ap instr_at (sym c.octets_from-left.ensures) ∙ sym c.in-Err-More.ensures.read ∙ ap (λ x. read_of shape_of (Err x)) c.in-Err-More.field-0-is

pub returns-in-Err-More-clause-grows : goal.returns-in-Err-More-clause-grows
returns-in-Err-More-clause-grows g c = c.loop-left.invariant.grows

pub returns-in-Err-TooLong-clause-grows : goal.returns-in-Err-TooLong-clause-grows
returns-in-Err-TooLong-clause-grows g c = c.loop-left.invariant.grows

pub returns-then-is_empty-clause-belongs : goal.returns-then-is_empty-clause-belongs
returns-then-is_empty-clause-belongs g c = c.loop-left.invariant.belongs

pub returns-in_err-apply_indexed-clause-belongs : goal.returns-in_err-apply_indexed-clause-belongs
returns-in_err-apply_indexed-clause-belongs g c = c.loop-left.invariant.belongs

pub returns-in_err-apply-in-Ok-clause-belongs : goal.returns-in_err-apply-in-Ok-clause-belongs
returns-in_err-apply-in-Ok-clause-belongs g c = c.apply.ensures.belongs

pub returns-in-Err-More-clause-belongs : goal.returns-in-Err-More-clause-belongs
returns-in-Err-More-clause-belongs g c = c.loop-left.invariant.belongs

pub returns-in-Err-TooLong-clause-belongs : goal.returns-in-Err-TooLong-clause-belongs
returns-in-Err-TooLong-clause-belongs g c = c.loop-left.invariant.belongs

pub returns-in-Err-TooLong-clause-stays : goal.returns-in-Err-TooLong-clause-stays
returns-in-Err-TooLong-clause-stays g c = c.loop-left.invariant.stays
