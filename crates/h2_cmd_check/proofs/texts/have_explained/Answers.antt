use Rattle.std.proofs.Common.{◌∙◌, rules, tests}
use Rattle.std.proofs.lemmas.Iterator.{YieldsList-from_slice}
use Rattle.std.proofs.lemmas.Iterator.Search.{any_from_yields_List}
use Rattle.h2_cmd_check.specs.ItemTexts.{says_explained}
use Rattle.h2_cmd_cases.specs.Lines.{line_said}
use Rattle.h2_cmd_cases.proofs.Lists.{any_lent}
use Rattle.h2_cmd_check.proofs.texts.have_explained.Goals as goal

pub returns : goal.returns
returns c =
    any_from_yields_List (λ l. says_explained (line_said l.now)) _ _ c.any.result c.any.ensures.ran (YieldsList-from_slice c.args.lines.now c.iter.ensures.rest) (λ x b q k. search (rules, tests))
    ∙ any_lent (λ l. says_explained (line_said l)) c.args.lines.now
