use Rattle.std.proofs.Common.{Ok, ap, arith, sym}
use Rattle.h2_cmd_book_file.proofs.body.read_contents.Goals as goal

pub returns-in-Err-clause-printed : goal.returns-in-Err-clause-printed
returns-in-Err-clause-printed g c = λ _ above. absurd (omega (arith, above))

pub returns-in-Err-read_hex-clause-printed : goal.returns-in-Err-read_hex-clause-printed
returns-in-Err-read_hex-clause-printed g c = λ _ above. absurd (omega (arith, above))

pub returns-in-Ok-clause-printed : goal.returns-in-Ok-clause-printed
returns-in-Ok-clause-printed g c = λ _. rw c.in-Text.is (ap Ok (sym c.in-Ok.ensures))

pub returns-in-File-clause-printed : goal.returns-in-File-clause-printed
returns-in-File-clause-printed g c = λ printed. rw c.in-File.is (c.read_file.ensures.printed printed)
