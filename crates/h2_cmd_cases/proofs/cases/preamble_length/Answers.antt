use Rattle.std.proofs.Common.{◌∙◌, arith, sym}
use Rattle.h2_cmd_cases.proofs.CaseLists.{front-is, no_front-loud}
use Rattle.h2_cmd_cases.proofs.cases.preamble_length.Goals as goal

pub returns-then-not-are_silent-clause-value : goal.returns-then-not-are_silent-clause-value
returns-then-not-are_silent-clause-value c =
    no_front-loud c.args.lines.now c.case_length-length.result c.case_length-length.ensures.value (sym c.are_silent.ensures ∙ c.if-not-are_silent.true)

pub returns-clause-value : goal.returns-clause-value
returns-clause-value c =
    front-is c.args.lines.now c.case_length-length.result c.case_length-length.ensures.value (omega (arith, c.case_length-length.ensures.within))
    (sym c.is_titled.ensures ∙ c.if-is_titled.false) (sym c.are_silent.ensures ∙ c.if-not-are_silent.false)
