use Rattle.std.proofs.Common.{◌≡◌, ◌∙◌, ap}
use Rattle.clap.specs.Simple.{app_of_fields}
use Rattle.clap.specs.Words.{app_of, new_app}
use Rattle.h2_cmd_args.proofs.usages.command_of.Goals as goal

pub returns : goal.returns
returns c =
    let app : app_of c.about-command.result ≡ new_app c.args.usage.now.name.now = ap app_of_fields c.about-command.ensures ∙ c.new.ensures.app in
    rw app at c.with_words.ensures (rw c.about-command.ensures c.new.ensures.local)
