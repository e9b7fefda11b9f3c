use Rattle.std.proofs.Common.{◌∙◌, bytes_eq, rules, tests}
use Rattle.std.proofs.lemmas.Iterator.{YieldsList-from_slice}
use Rattle.std.proofs.lemmas.Iterator.Search.{any_from_yields_List}
use Rattle.h2_cmd_against.specs.Aims.{method_in}
use Rattle.h2_cmd_cases.proofs.Lists.{any_lent}
use Rattle.h2_cmd_against.proofs.aim.say_method.Goals as goal

pub returns : goal.returns
returns c =
    any_from_yields_List (λ p. bytes_eq (method_in p.now) c.args.method.now) _ _ c.any.result c.any.ensures.ran (YieldsList-from_slice c.args.parts.now c.iter.ensures.rest) (λ x b q k. search (rules, tests))
    ∙ any_lent (λ p. bytes_eq (method_in p) c.args.method.now) c.args.parts.now
