use Rattle.std.proofs.Common.{refl}
use Rattle.h2_cmd_args.specs.Grammar.{bench_app, with_offline}
use Rattle.h2_cmd_args.proofs.usages.usages.Goals as goal

pub returns : goal.returns
unfolding bench_app with_offline
returns c = refl
