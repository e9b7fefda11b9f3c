use Rattle.std.proofs.Common.{refl}
use Rattle.h2_spec.specs.Requests.AnswerWords.{entry_of}
use Rattle.h2_cmd_play.proofs.answer.parse_answer.Goals as goal

pub returns-in-Some : goal.returns-in-Some
unfolding entry_of
returns-in-Some g c =
    let four = c.in-Some.ensures.four in
    rw four c.entry_of.ensures

pub returns-in-None-clause-refused : goal.returns-in-None-clause-refused
unfolding entry_of
returns-in-None-clause-refused g c =
    let fewer = c.in-None.ensures.fewer in
    rw fewer refl
