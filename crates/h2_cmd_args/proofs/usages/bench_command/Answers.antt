use Rattle.std.proofs.Common.{◌∙◌, refl}
use Rattle.h2_cmd_args.proofs.Tables.{usage-added, usages-done}
use Rattle.h2_cmd_args.proofs.usages.bench_command.Goals as goal

pub loop-usage-init : goal.loop-usage-init
loop-usage-init c = (c.top_command-command.ensures.1, rw c.top_command-command.ensures.0 refl)

pub loop-usage-preserved : goal.loop-usage-preserved
loop-usage-preserved c =
    usage-added _ c.usages-usages.result.now c.loop-usage.usage-index _ _ _ _ c.loop-usage-test.true c.in_ok-command.ensures c.in_ok-command_of.ensures c.loop-usage.invariant

pub returns : goal.returns
returns c =
    let done = usages-done _ c.usages-usages.result.now c.loop-usage.usage-index _ c.loop-usage-test.false c.loop-usage.invariant in
    (done.0 ∙ c.usages-usages.ensures, done.1)
