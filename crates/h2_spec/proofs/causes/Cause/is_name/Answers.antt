use Rattle.std.proofs.Common.{◌∙◌}
use Rattle.std.specs.Str.{bytes_eq}
use Rattle.h2_spec.specs.Causes.CauseWords.{all_causes, cause_name}
use Rattle.h2_spec.proofs.Columns.{any_word}
use Rattle.h2_spec.proofs.causes.Cause.is_name.Goals as goal

pub returns : goal.returns
returns c = c.is_one_of.ensures ∙ any_word (bytes_eq c.args.word.now) cause_name all_causes _ c.names.ensures
