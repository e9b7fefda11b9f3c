use Rattle.std.proofs.Common.{◌∙◌, ap, arith}
use Rattle.h2_table.specs.Runs.{entries_in}
use Rattle.h2_table.proofs.KeptRuns.{entries-more}
use Rattle.h2_table.proofs.kept.share_runs.Goals as goal

pub overflow_add-taken : goal.overflow_add-taken
overflow_add-taken g c = omega (arith, c.common-count.ensures.within.1)

pub loop-run-preserved : goal.loop-run-preserved
loop-run-preserved g c =
    let before = c.loop-run.invariant in
    let is = c.in_ok-shared.ensures ∙ c.common-count.ensures.same in
    record {
      first = ap entries_in c.in_ok-push.ensures.items ∙ entries-more c.loop-run.runs.items c.in_ok-shared.shared c.args.ring.now.items c.loop-run.taken c.common-count.result before.first is;
      within = c.common-count.ensures.within.0;
    }
