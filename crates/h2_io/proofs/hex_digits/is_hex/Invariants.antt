use Rattle.std.proofs.Common.{◌≡◌, is_some, length}
use Rattle.h2_spec.specs.Requests.AnswerWords.{body_of}
use Rattle.h2_io.proofs.hex_digits.is_hex.Given as goal

abbrev pub invariant-loop-rest : goal.invariant-loop-rest
invariant-loop-rest l = is_some (body_of l.digits) ≡ is_some (body_of l.rest)

abbrev pub decreases-loop-rest : goal.decreases-loop-rest
decreases-loop-rest l = length l.rest
