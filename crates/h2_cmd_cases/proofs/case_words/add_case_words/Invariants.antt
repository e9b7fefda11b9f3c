use Rattle.std.proofs.Common.{◌≡◌, drop, map}
use Rattle.h2_cmd_cases.specs.CaseWords.{with_case_words}
use Rattle.h2_cmd_cases.proofs.case_words.add_case_words.Given as goal

abbrev pub invariant-loop-line : goal.invariant-loop-line
invariant-loop-line l =
    with_case_words l.words (map (λ t. t.now) (drop l.line-index l.lines)) ≡ with_case_words l.fn.words (map (λ t. t.now) l.lines)
