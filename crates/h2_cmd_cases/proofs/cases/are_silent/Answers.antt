use Rattle.std.proofs.Common.{◌∙◌, rules, tests}
use Rattle.std.proofs.lemmas.Iterator.{YieldsList-from_slice}
use Rattle.std.proofs.lemmas.Iterator.Search.{all_from_yields_List}
use Rattle.h2_cmd_cases.specs.Files.{is_silent_line}
use Rattle.h2_cmd_cases.proofs.Lists.{all_lent}
use Rattle.h2_cmd_cases.proofs.cases.are_silent.Goals as goal

pub returns : goal.returns
returns c =
    all_from_yields_List (λ l. is_silent_line l.now) _ _ c.all.result c.all.ensures.ran (YieldsList-from_slice c.args.lines.now c.iter.ensures.rest) (λ x b q k. search (rules, tests))
    ∙ all_lent is_silent_line c.args.lines.now
