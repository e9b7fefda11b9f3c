use Rattle.std.proofs.Common.{◌≡◌, is_some, length}
use Rattle.h2_spec.specs.Requests.AnswerWords.{fields_of}
use Rattle.h2_cmd_play.specs.AnswerParts.{parts_behind}
use Rattle.h2_cmd_play.proofs.answer.are_fields.Given as goal

abbrev pub invariant-loop-part : goal.invariant-loop-part
invariant-loop-part l = is_some (fields_of (parts_behind l.rest)) ≡ is_some (fields_of (parts_behind l.parts))

abbrev pub decreases-loop-part : goal.decreases-loop-part
decreases-loop-part l = length l.rest
