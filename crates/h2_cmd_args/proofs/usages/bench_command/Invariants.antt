use Rattle.std.proofs.Common.{◌≡◌, drop}
use Rattle.clap.specs.Words.{app_of}
use Rattle.h2_cmd_args.specs.Built.{IsLocal}
use Rattle.h2_cmd_args.specs.Grammar.{top_app}
use Rattle.h2_cmd_args.specs.Tables.{with_usages}
use Rattle.h2_cmd_args.proofs.usages.bench_command.Given as goal

abbrev pub invariant-loop-usage : goal.invariant-loop-usage
invariant-loop-usage l = IsLocal l.command × (with_usages (app_of l.command) (drop l.usage-index l.usages) ≡ with_usages top_app l.usages)
