use Rattle.std.proofs.Common.{◌≡◌, ◌+◌, ◌≤◌, length}
use Rattle.h2_spec.specs.Requests.AnswerWords.{early_words}
use Rattle.h2_cmd_play.specs.AnswerParts.{parts_behind}
use Rattle.h2_cmd_play.proofs.answer.early_words.Given as goal

abbrev pub invariant-loop-part : goal.invariant-loop-part
invariant-loop-part l =
    (l.count + early_words (parts_behind l.rest) ≡ early_words (parts_behind l.parts)) × (l.count + length l.rest ≤ length l.parts)

abbrev pub decreases-loop-part : goal.decreases-loop-part
decreases-loop-part l = length l.rest
