use Rattle.std.proofs.Common.{◌≡◌, drop}
use Rattle.h2_cmd_cases.specs.Shell.{line_begins, words_behind}
use Rattle.h2_cmd_cases.proofs.shell.add_words.Given as goal

abbrev pub invariant-loop-octet : goal.invariant-loop-octet
invariant-loop-octet l =
    words_behind (record { place = l.place; word = l.word.items; words = l.words }) (drop l.octet-index l.line)
    ≡ words_behind (line_begins l.fn.words) l.line
