-- The tables of `src/usages.rt`: the rule of a word, and the commands of a table.
use Rattle.std.specs.Prelude.{true, List, [], ◌∷◌, Some}
use Rattle.clap.specs.Words.{App, Rule, Text, new_app, new_rule, with_rule, with_subcommand}
use Rattle.clap.specs.declared.builder.ArgAction.TheVariants.{Append}
use Rattle.h2_cmd_args.specs.Built.{flag_rule, number_rule, option_rule, text_rule}
use Rattle.h2_cmd_args.specs.declared.usages.Usage.{Usage}
use Rattle.h2_cmd_args.specs.declared.usages.Kind.{Kind}
use Rattle.h2_cmd_args.specs.declared.usages.Kind.TheVariants as kind
use Rattle.h2_cmd_args.specs.declared.usages.Word.{Word}

-- the rule of a word that has this name and is given so
abbrev pub kind_rule : Text → Kind → Rule
kind_rule name kind.Flag = flag_rule name
kind_rule name kind.Text = text_rule name
kind_rule name (kind.Number most) = option_rule name most
kind_rule name (kind.PlacedNumber least most) = record (number_rule name least most) { required = true }
kind_rule name kind.Texts = record (new_rule name) { action = Some Append }
kind_rule name kind.SomeTexts = record (new_rule name) { required = true; action = Some Append }

abbrev pub word_rule : Word → Rule
word_rule word = kind_rule word.name.now word.kind

-- a command with these words too, after those that it has
abbrev pub with_words : App → List Word → App
with_words app [] = app
with_words app (word ∷ words) = with_words (with_rule app (word_rule word)) words

-- the command of a usage
abbrev pub usage_app : Usage → App
usage_app usage = with_words (new_app usage.name.now) usage.words.now

-- a command with those of these usages below it too
abbrev pub with_usages : App → List Usage → App
with_usages app [] = app
with_usages app (usage ∷ usages) = with_usages (with_subcommand app (usage_app usage).top) usages
