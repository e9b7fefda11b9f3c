-- The faults of words that say an answer, as numbers.
use Rattle.std.specs.Prelude.{ℕ}
use Rattle.h2_request_book.specs.Fault.{entry_number}
use Rattle.h2_cmd_play.specs.declared.fault.AnswerFault.{AnswerFault}
use Rattle.h2_cmd_play.specs.declared.fault.AnswerFault.TheVariants.{NoMemory, BadAnswer, BadEntry}

abbrev pub fault_number : AnswerFault → ℕ
fault_number NoMemory = 0
fault_number BadAnswer = 26
fault_number (BadEntry fault) = entry_number fault
