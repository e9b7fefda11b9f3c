use Rattle.std.proofs.Common.{rules}
use Rattle.h2_cmd_args.proofs.command.config_at.Goals as goal

pub returns : goal.returns
returns c = search rules
