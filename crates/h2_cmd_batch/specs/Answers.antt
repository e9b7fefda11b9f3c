-- Why the words of an answer are refused, as a fault of the commands.
use Rattle.std.specs.Prelude.{Option}
use Rattle.h2_spec.specs.Requests.Answer.{Entry}
use Rattle.h2_cmd_play.specs.AnswerParts as answers
use Rattle.h2_cmd_play.specs.declared.fault.AnswerFault.{AnswerFault}
use Rattle.h2_cmd_play.specs.declared.fault.AnswerFault.TheVariants as answer
use Rattle.h2_cmd_batch.specs.declared.fault.BenchFault.{BenchFault}
use Rattle.h2_cmd_batch.specs.declared.fault.BenchFault.TheVariants.{NoMemory, BadAnswer, BadEntry}

abbrev pub fault_told : AnswerFault → BenchFault
fault_told answer.NoMemory = NoMemory
fault_told answer.BadAnswer = BadAnswer
fault_told (answer.BadEntry fault) = BadEntry fault

-- the one refusal: words that say no entry are refused before memory is needed
abbrev pub refusal_of : Option Entry → BenchFault
refusal_of entry = fault_told (answers.refusal_of entry)
