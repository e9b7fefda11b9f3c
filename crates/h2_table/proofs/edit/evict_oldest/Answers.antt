use Rattle.std.proofs.Common.{arith, ◌∙◌, ◌++◌, sym, take}
use Rattle.h2_spec.proofs.TableLaws.{fit-all}
use Rattle.h2_table.proofs.edit.evict_oldest.Goals as goal

pub returns-then-left-available-clause-left : goal.returns-then-left-available-clause-left
returns-then-left-available-clause-left g c =
    let now = c.args.added.now.items ++ take c.evict_own-kept.result.0 c.args.base.now.table.entries in
    sym (fit-all now c.args.available (omega arith)) ∙ c.evict_own-kept.ensures.same
