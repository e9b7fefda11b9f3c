use Rattle.h2_cmd_args.proofs.Grammar.{plays-alike}
use Rattle.h2_cmd_args.proofs.command.play_from.Goals as goal

pub returns : goal.returns
returns c = plays-alike _ _ _ _ _ _ _ _ _ _ c.config_at.ensures c.number_at.ensures c.is_set.ensures c.is_raw.ensures c.in_ok-book.ensures
