use Rattle.std.proofs.Common.{arith, ap, sym, ◌∙◌}
use Rattle.h2_spec.specs.Hpack.DynamicTable.{total_size}
use Rattle.h2_table.proofs.Editing.{table, begun}
use Rattle.h2_table.proofs.edit.Edit.begin.Goals as goal

pub returns-clause-belongs : goal.returns-clause-belongs
returns-clause-belongs g c =
    let own = c.args.base.now.table.entries in
    let all = begun c.clear.new.self.items own c.len-self-inside.result c.clear.ensures.items c.len-self-inside.ensures in
    record {
      counted = c.size-self-inside.ensures.sum ∙ sym (ap total_size all);
      held = omega (arith, c.len-self-inside.ensures);
      within = omega (arith, c.size-self-inside.ensures.within, c.max-self-inside.ensures.is);
      limited = omega (arith, c.max-self-inside.ensures.is);
    }

pub returns-clause-same : goal.returns-clause-same
returns-clause-same g c =
    let own = c.args.base.now.table.entries in
    let all = begun c.clear.new.self.items own c.len-self-inside.result c.clear.ensures.items c.len-self-inside.ensures in
    λ k. table (all k) (c.max-self-inside.ensures.is k)
