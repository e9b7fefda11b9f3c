-- The words of an answer as they are read: part after part, and why they are refused.
use Rattle.std.specs.Prelude.{ℕ, Bool, List, [], ◌∷◌, Option, Some, None}
use Rattle.h2_spec.specs.Requests.Answer.{Entry}
use Rattle.h2_spec.specs.Requests.AnswerWords.{parts_of, status_of, body_of, fields_of, early_of, early_words, entry_with}
use Rattle.h2_cmd_play.specs.declared.answer.Parts.{Parts}
use Rattle.h2_cmd_play.specs.declared.fault.AnswerFault.{AnswerFault}
use Rattle.h2_cmd_play.specs.declared.fault.AnswerFault.TheVariants.{NoMemory, BadAnswer}

-- the parts that follow one, each after its bar
abbrev pub parts_behind : List ℕ → List (List ℕ)
parts_behind [] = []
parts_behind (bar ∷ text) = parts_of text

-- the entry of these parts with this status, early or not
abbrev pub entry_from : Option ℕ → Option Bool → Parts → Option Entry
entry_from status early parts = entry_with parts.method.now parts.path.now status (body_of parts.body.now) (fields_of (parts_behind parts.further.now)) early

-- the entry of these parts
abbrev pub entry_in : Parts → Option Entry
entry_in parts = entry_from (status_of parts.status.now) (early_of (early_words (parts_behind parts.further.now))) parts

-- the one refusal: words that say no entry are refused before memory is needed
abbrev pub refusal_of : Option Entry → AnswerFault
refusal_of None = BadAnswer
refusal_of (Some entry) = NoMemory
