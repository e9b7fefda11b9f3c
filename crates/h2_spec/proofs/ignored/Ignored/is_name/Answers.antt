use Rattle.std.proofs.Common.{◌∙◌}
use Rattle.std.specs.Str.{bytes_eq}
use Rattle.h2_spec.specs.Causes.IgnoredWords.{all_reasons, ignored_name}
use Rattle.h2_spec.proofs.Columns.{any_word}
use Rattle.h2_spec.proofs.ignored.Ignored.is_name.Goals as goal

pub returns : goal.returns
returns c = c.is_one_of.ensures ∙ any_word (bytes_eq c.args.word.now) ignored_name all_reasons _ c.names.ensures
