use Rattle.std.proofs.Common.{arith, refl, ◌∙◌}
use Rattle.h2_spec.specs.Hpack.Field.{field}
use Rattle.h2_table.proofs.Editing.{leaves, no_entry}
use Rattle.h2_table.proofs.edit.evict_own.Goals as goal

pub overflow_add-left-in-Some : goal.overflow_add-left-in-Some
overflow_add-left-in-Some g c =
    let e = leaves c.args.added.now.items c.args.base.now.table.entries c.loop-left.last (field c.in-Some.name.now c.in-Some.value.now) c.args.available c.in-Some.ensures (omega arith) in
    omega (arith, e.counted)

pub overflow_sub-left : goal.overflow_sub-left
overflow_sub-left g c =
    let e = leaves c.args.added.now.items c.args.base.now.table.entries c.loop-left.last (field c.in-Some.name.now c.in-Some.value.now) c.args.available c.in-Some.ensures (omega arith) in
    omega (arith, e.counted)

pub returns-in-None-clause-gone : goal.returns-in-None-clause-gone
returns-in-None-clause-gone g c = absurd (no_entry c.args.base.now.table.entries c.loop-left.last (omega arith) c.loop-left.invariant.held c.in-None.ensures)

pub loop-left-preserved : goal.loop-left-preserved
loop-left-preserved g c =
    let e = leaves c.args.added.now.items c.args.base.now.table.entries c.loop-left.last (field c.in-Some.name.now c.in-Some.value.now) c.args.available c.in-Some.ensures (omega arith) in
    record {
      held = omega arith;
      counted = omega (arith, e.counted);
      same = e.same ∙ c.loop-left.invariant.same;
    }

pub loop-left-init : goal.loop-left-init
loop-left-init g c = record { held = c.requires.held; counted = c.requires.counted; same = refl }

pub overflow_add-left : goal.overflow_add-left
overflow_add-left g c =
    let e = leaves c.args.added.now.items c.args.base.now.table.entries c.loop-left.last (field c.in-Some.name.now c.in-Some.value.now) c.args.available c.in-Some.ensures (omega arith) in
    omega (arith, e.counted)

pub returns-else-last-gt0-clause-gone : goal.returns-else-last-gt0-clause-gone
returns-else-last-gt0-clause-gone g c = λ _. omega (arith, c.if-last-gt0.false)

pub returns-after-loop-left-clause-gone : goal.returns-after-loop-left-clause-gone
returns-after-loop-left-clause-gone g c = λ over. absurd (omega (arith, over, c.loop-left-test.false))

pub returns-in-None-clause-same : goal.returns-in-None-clause-same
returns-in-None-clause-same g c = c.loop-left.invariant.same

pub returns-in-None-clause-held : goal.returns-in-None-clause-held
returns-in-None-clause-held g c = c.loop-left.invariant.held

pub returns-in-None-clause-counted : goal.returns-in-None-clause-counted
returns-in-None-clause-counted g c = c.loop-left.invariant.counted

pub overflow_sub-last : goal.overflow_sub-last
overflow_sub-last g c = c.if-last-gt0.true

pub loop-left-smaller : goal.loop-left-smaller
loop-left-smaller g c = omega (arith, c.if-last-gt0.true)
