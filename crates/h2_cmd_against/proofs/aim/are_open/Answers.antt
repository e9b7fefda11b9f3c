use Rattle.std.proofs.Common.{◌∙◌, false, rules, tests}
use Rattle.std.proofs.lemmas.Iterator.{YieldsList-from_slice}
use Rattle.std.proofs.lemmas.Iterator.Search.{any_from_yields_List}
use Rattle.h2_cmd_against.specs.Aims.{is_open}
use Rattle.h2_cmd_cases.proofs.Lists.{any_lent}
use Rattle.h2_cmd_against.proofs.aim.are_open.Goals as goal

pub returns : goal.returns
returns c =
    any_from_yields_List (λ p. is_open false p.now) _ _ c.any.result c.any.ensures.ran (YieldsList-from_slice c.args.parts.now c.iter.ensures.rest) (λ x b q k. search (rules, tests))
    ∙ any_lent (λ p. is_open false p) c.args.parts.now
