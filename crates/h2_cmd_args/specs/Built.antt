-- What a built command and its arguments are to clap.
use Rattle.std.specs.Prelude.{◌≡◌, ℕ, false, Some}
use Rattle.clap.specs.Words.{App, Rule, Text, app_of, new_rule, rule_of}
use Rattle.clap.specs.declared.builder.Arg.{Arg}
use Rattle.clap.specs.declared.builder.ArgAction.TheVariants.{Set, SetTrue}
use Rattle.clap.specs.declared.builder.Command.{Command}
use Rattle.clap.specs.declared.builder.Command.TheViews.{out-Command}
use Rattle.clap.specs.declared.builder.ValueParser.TheVariants as parser

-- an argument that is read by this rule, in its own command alone
abbrev pub IsArg : Rule → Arg → Type 0
IsArg rule arg = (rule_of arg ≡ rule) × (arg.global ≡ false)

-- a command with no argument that is in its subcommands too
abbrev pub IsLocal : Command → Type 0
IsLocal command = (out-Command command).has_globals ≡ false

-- such a command that is read as this one
abbrev pub IsCommand : App → Command → Type 0
IsCommand app command = (app_of command ≡ app) × IsLocal command

-- the rule of a positional that takes a number, from the least to the most
abbrev pub number_rule : Text → ℕ → ℕ → Rule
number_rule id least most = record (new_rule id) { action = Some Set; parser = Some (parser.Unsigned least most) }

-- the rule of an option that takes a text
abbrev pub text_rule : Text → Rule
text_rule name = record (new_rule name) { long = Some name; action = Some Set }

-- the rule of a flag
abbrev pub flag_rule : Text → Rule
flag_rule name = record (new_rule name) { long = Some name; action = Some SetTrue }

-- the rule of an option that takes a number, 0 to the most
abbrev pub option_rule : Text → ℕ → Rule
option_rule name most = record (number_rule name 0 most) { long = Some name }
