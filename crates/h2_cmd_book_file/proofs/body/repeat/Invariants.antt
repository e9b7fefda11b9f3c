use Rattle.std.proofs.Common.{◌≡◌}
use Rattle.h2_cmd_book_file.specs.Contents.{filled}
use Rattle.h2_cmd_book_file.proofs.body.repeat.Given as goal

abbrev pub invariant-loop-place : goal.invariant-loop-place
invariant-loop-place l = l.octets.items ≡ filled l.place l.text
