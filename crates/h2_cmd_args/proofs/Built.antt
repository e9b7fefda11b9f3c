-- What one more argument, subcommand or setting makes of a command.
use Rattle.std.proofs.Common.{◌≡◌, ◌∙◌, ◌||◌, Bool, true, ap, rules}
use Rattle.clap.specs.Simple.{app_of_fields, shape_of}
use Rattle.clap.specs.Words.{AddsArg, AddsSubcommand, App, Rule, with_rule, with_subcommand}
use Rattle.clap.specs.declared.builder.Arg.{Arg}
use Rattle.clap.specs.declared.builder.Command.{Command}
use Rattle.clap.specs.declared.builder.Command.TheViews.{out-Command}
use Rattle.h2_cmd_args.specs.Built.{IsArg, IsCommand}

pub arg-added : (app : App) (rule : Rule) (old new : Command) (arg : Arg) → AddsArg old arg new → IsCommand app old → IsArg rule arg → IsCommand (with_rule app rule) new
arg-added app rule old new arg x is by = search rules

pub subcommand-added : (app sub : App) (old added new : Command) → AddsSubcommand old added new → IsCommand app old → IsCommand sub added
    → IsCommand (with_subcommand app sub.top) new
subcommand-added app sub old added new x is by =
    let top = ap (λ (a : App). a.top) by.0 in (
      x.shape by.1 ∙ ap (λ (a : App). with_subcommand a (shape_of added)) is.0 ∙ ap (with_subcommand app) top,
      x.globals ∙ ap (λ (b : Bool). b || (out-Command added).has_globals) is.1 ∙ by.1,
    )

pub subcommand-required : (app : App) (old new : Command) → out-Command new ≡ record (out-Command old) { subcommand_required = true } → IsCommand app old
    → IsCommand (record app { top = record app.top { subcommand_required = true } }) new
subcommand-required app old new e is =
    (ap app_of_fields e ∙ ap (λ (a : App). record a { top = record a.top { subcommand_required = true } }) is.0, rw e is.1)
