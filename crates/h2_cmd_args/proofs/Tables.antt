-- Loops over tables: one more word, one more usage, and the end of each.
use Rattle.std.proofs.Common.{◌≡◌, ◌∙◌, ◌+◌, ◌<◌, ◌≤◌, ℕ, List, length, drop, get_or, ap, refl, sym}
use Rattle.std.proofs.lemmas.List.{drop_all, drop_more}
use Rattle.clap.specs.Words.{AddsArg, AddsSubcommand, App, app_of}
use Rattle.clap.specs.declared.builder.Arg.{Arg}
use Rattle.clap.specs.declared.builder.Command.{Command}
use Rattle.h2_cmd_args.specs.Built.{IsArg, IsCommand, IsLocal}
use Rattle.h2_cmd_args.specs.Tables.{usage_app, with_usages, with_words, word_rule}
use Rattle.h2_cmd_args.specs.declared.usages.Usage.{Usage}
use Rattle.h2_cmd_args.specs.declared.usages.Word.{Word}
use Rattle.h2_cmd_args.proofs.Built.{arg-added, subcommand-added}

pub word-added : (all : App) (words : List Word) (i : ℕ) (d : Word) (old new : Command) (arg : Arg) → i < length words → AddsArg old arg new
    → IsArg (word_rule (get_or words i d)) arg → IsLocal old × (with_words (app_of old) (drop i words) ≡ all)
    → IsLocal new × (with_words (app_of new) (drop (i + 1) words) ≡ all)
word-added all words i d old new arg inside added is so =
    let step = arg-added (app_of old) (word_rule (get_or words i d)) old new arg added (refl, so.0) is in
    (step.1, ap (λ (app : App). with_words app (drop (i + 1) words)) step.0 ∙ ap (with_words (app_of old)) (sym (drop_more words i d inside)) ∙ so.1)

pub words-done : (all : App) (words : List Word) (i : ℕ) (command : Command) → length words ≤ i
    → IsLocal command × (with_words (app_of command) (drop i words) ≡ all) → IsCommand all command
words-done all words i command end so = (ap (with_words (app_of command)) (sym (drop_all i words end)) ∙ so.1, so.0)

pub usage-added : (all : App) (usages : List Usage) (i : ℕ) (d : Usage) (old new added : Command) → i < length usages
    → AddsSubcommand old added new → IsCommand (usage_app (get_or usages i d)) added → IsLocal old × (with_usages (app_of old) (drop i usages) ≡ all)
    → IsLocal new × (with_usages (app_of new) (drop (i + 1) usages) ≡ all)
usage-added all usages i d old new added inside adds is so =
    let step = subcommand-added (app_of old) (usage_app (get_or usages i d)) old added new adds (refl, so.0) is in
    (step.1, ap (λ (app : App). with_usages app (drop (i + 1) usages)) step.0 ∙ ap (with_usages (app_of old)) (sym (drop_more usages i d inside)) ∙ so.1)

pub usages-done : (all : App) (usages : List Usage) (i : ℕ) (command : Command) → length usages ≤ i
    → IsLocal command × (with_usages (app_of command) (drop i usages) ≡ all) → IsCommand all command
usages-done all usages i command end so = (ap (with_usages (app_of command)) (sym (drop_all i usages end)) ∙ so.1, so.0)
