use Rattle.std.proofs.Common.{arith, ◌∙◌, sym, ap, length}
use Rattle.h2_table.proofs.Popped.{evicts, not_empty, one_fewer}
use Rattle.h2_spec.proofs.TableLaws.{fit-all}
use Rattle.h2_table.proofs.dynamic_table.evict.Goals as goal

pub overflow_add-left-in-Some : goal.overflow_add-left-in-Some
overflow_add-left-in-Some g c =
    let e = evicts c.loop-left.ring.items c.in-Some.entry c.args.available c.in-Some.ensures.value (omega arith) in
    let name = ap length c.name.ensures in
    let value = ap length c.value.ensures in
    omega arith

pub overflow_sub-left : goal.overflow_sub-left
overflow_sub-left g c =
    let e = evicts c.loop-left.ring.items c.in-Some.entry c.args.available c.in-Some.ensures.value (omega arith) in
    let name = ap length c.name.ensures in
    let value = ap length c.value.ensures in
    omega arith

pub loop-left-preserved : goal.loop-left-preserved
loop-left-preserved g c =
    let e = evicts c.loop-left.ring.items c.in-Some.entry c.args.available c.in-Some.ensures.value (omega arith) in
    let name = ap length c.name.ensures in
    let value = ap length c.value.ensures in
    record {
      counted = rw c.in-Some.ensures.items (omega arith);
      same = rw c.in-Some.ensures.items (e.same ∙ c.loop-left.invariant.same);
      places = rw c.in-Some.ensures.items c.loop-left.invariant.places;
    }

pub returns-in-None-clause-kept : goal.returns-in-None-clause-kept
returns-in-None-clause-kept g c = absurd (not_empty c.loop-left.ring.items c.args.available (omega arith) c.in-None.ensures.value)

pub returns-in-None-clause-counted : goal.returns-in-None-clause-counted
returns-in-None-clause-counted g c = absurd (not_empty c.loop-left.ring.items c.args.available (omega arith) c.in-None.ensures.value)

pub returns-in-None-clause-within : goal.returns-in-None-clause-within
returns-in-None-clause-within g c = absurd (not_empty c.loop-left.ring.items c.args.available (omega arith) c.in-None.ensures.value)

pub returns-clause-kept : goal.returns-clause-kept
returns-clause-kept g c = sym (fit-all c.loop-left.ring.items c.args.available (omega arith)) ∙ c.loop-left.invariant.same

pub loop-left-smaller : goal.loop-left-smaller
loop-left-smaller g c = rw c.in-Some.ensures.items (one_fewer c.loop-left.ring.items c.in-Some.entry c.in-Some.ensures.value)

pub overflow_add-left : goal.overflow_add-left
overflow_add-left g c =
    let e = evicts c.loop-left.ring.items c.in-Some.entry c.args.available c.in-Some.ensures.value (omega arith) in
    let name = ap length c.name.ensures in
    let value = ap length c.value.ensures in
    omega arith

pub returns-in-None-clause-places : goal.returns-in-None-clause-places
returns-in-None-clause-places g c = ap (λ b. b.capacity) c.in-None.ensures.items ∙ c.loop-left.invariant.places
