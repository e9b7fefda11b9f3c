use Rattle.std.proofs.Common.{arith}
use Rattle.h2_cmd_book_file.proofs.body.read_file.Goals as goal

pub returns-in_default-clause-printed : goal.returns-in_default-clause-printed
returns-in_default-clause-printed g c = λ _ above. absurd (omega (arith, above))

pub returns-clause-printed : goal.returns-clause-printed
returns-clause-printed g c = λ _ above. absurd (omega (arith, above))
