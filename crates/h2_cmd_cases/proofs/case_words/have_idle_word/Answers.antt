use Rattle.std.proofs.Common.{◌∙◌, rules, tests}
use Rattle.std.proofs.lemmas.Iterator.{YieldsList-from_slice}
use Rattle.std.proofs.lemmas.Iterator.Search.{any_from_yields_List}
use Rattle.std.specs.String.{string_bytes}
use Rattle.h2_cmd_cases.specs.CaseWords.{is_idle}
use Rattle.h2_cmd_cases.proofs.Lists.{any_text}
use Rattle.h2_cmd_cases.proofs.case_words.have_idle_word.Goals as goal

pub returns : goal.returns
returns c =
    any_from_yields_List (λ w. is_idle (string_bytes w)) _ _ c.any.result c.any.ensures.ran (YieldsList-from_slice c.args.words.now c.iter.ensures.rest) (λ x b q k. search (rules, tests))
    ∙ any_text is_idle c.args.words.now
