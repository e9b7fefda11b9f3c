use Rattle.std.proofs.Common.{◌∙◌, ap}
use Rattle.clap.specs.Simple.{app_of_fields}
use Rattle.h2_cmd_args.proofs.Built.{subcommand-required}
use Rattle.h2_cmd_args.proofs.usages.top_command.Goals as goal

pub returns : goal.returns
returns c =
    let app = ap app_of_fields c.after_help.ensures ∙ ap app_of_fields c.about.ensures ∙ c.new.ensures.app in
    subcommand-required _ _ _ c.subcommand_required.ensures (app, rw (c.after_help.ensures, c.about.ensures) c.new.ensures.local)
