use Rattle.std.proofs.Common.{◌≡◌, length}
use Rattle.h2_spec.specs.Requests.AnswerWords.{fields_of}
use Rattle.h2_cmd_play.specs.AnswerParts.{parts_behind}
use Rattle.h2_cmd_play.proofs.AnswerTexts.{fields_after}
use Rattle.h2_cmd_play.proofs.answer.read_fields.Given as goal

abbrev pub invariant-loop-part : goal.invariant-loop-part
invariant-loop-part g l = fields_after l.fields.items (parts_behind l.rest) ≡ fields_of (parts_behind l.parts)

abbrev pub decreases-loop-part : goal.decreases-loop-part
decreases-loop-part g l = length l.rest
