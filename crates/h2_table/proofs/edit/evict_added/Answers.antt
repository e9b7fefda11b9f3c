use Rattle.std.proofs.Common.{arith, ◌∙◌, sym, ap, length}
use Rattle.h2_table.proofs.Popped.{evicts-split}
use Rattle.h2_spec.proofs.TableLaws.{fit-all}
use Rattle.h2_table.proofs.edit.evict_added.Goals as goal

pub overflow_add-left-in-Some : goal.overflow_add-left-in-Some
overflow_add-left-in-Some g c =
    let e = evicts-split c.loop-left.added.items c.pop_back.new.self.items c.in-Some.entry c.args.available c.in-Some.ensures.items (omega arith) in
    omega (arith, e.counted, ap length c.name.ensures, ap length c.value.ensures)

pub overflow_sub-left : goal.overflow_sub-left
overflow_sub-left g c =
    let e = evicts-split c.loop-left.added.items c.pop_back.new.self.items c.in-Some.entry c.args.available c.in-Some.ensures.items (omega arith) in
    omega (arith, e.counted, ap length c.name.ensures, ap length c.value.ensures)

pub loop-left-preserved : goal.loop-left-preserved
loop-left-preserved g c =
    let e = evicts-split c.loop-left.added.items c.pop_back.new.self.items c.in-Some.entry c.args.available c.in-Some.ensures.items (omega arith) in
    let name = ap length c.name.ensures in
    let value = ap length c.value.ensures in
    record {
      counted = omega (arith, e.counted, name, value);
      same = e.same ∙ c.loop-left.invariant.same;
      fewer = omega (arith, c.in-Some.ensures.cases, c.loop-left.invariant.fewer);
      places = c.in-Some.ensures.capacity ∙ c.loop-left.invariant.places;
    }

pub returns-clause-kept : goal.returns-clause-kept
returns-clause-kept g c = sym (fit-all c.loop-left.added.items c.args.available (omega arith)) ∙ c.loop-left.invariant.same
