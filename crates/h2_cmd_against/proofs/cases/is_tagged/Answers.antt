use Rattle.std.proofs.Common.{◌∙◌, rules, tests}
use Rattle.std.proofs.lemmas.Iterator.{YieldsList-from_slice}
use Rattle.std.proofs.lemmas.Iterator.Search.{any_from_yields_List}
use Rattle.h2_cmd_against.specs.Files.{is_tag}
use Rattle.h2_cmd_cases.proofs.Lists.{any_lent}
use Rattle.h2_cmd_against.proofs.cases.is_tagged.Goals as goal

pub returns : goal.returns
returns c =
    any_from_yields_List (λ l. is_tag l.now) _ _ c.any.result c.any.ensures.ran (YieldsList-from_slice c.args.lines.now c.iter.ensures.rest) (λ x b q k. search (rules, tests))
    ∙ any_lent is_tag c.args.lines.now
