-- Why a line is none of a dialogue.
use Rattle.std.specs.Prelude.{◌≡◌, List, ℕ, codes, Result, Ok, Err}
use Rattle.h2_cmd_inject.specs.declared.why.LineRefusal.{LineRefusal}
use Rattle.h2_cmd_inject.specs.declared.why.LineRefusal.TheVariants as refusal
use Rattle.h2_cmd_inject.specs.declared.why.Why.{Why}
use Rattle.h2_cmd_inject.specs.declared.why.Why.TheVariants as why

abbrev pub sentence_of : Why → List ℕ
sentence_of why.Mark = codes "a mark of a dialogue is ;# ;@ ;+ ;- ;< ;! or ;$, and a space after it"
sentence_of why.NoTitle = codes "a dialogue begins with a line ;# TITLE"
sentence_of why.NoStep = codes "a step begins with a line ;+ ITEM or ;- ITEM"
sentence_of why.Item = codes "an item is start, pong, or NAME FLAGS STREAM"
sentence_of why.NotOneFrame = codes "a line of a dialogue is one frame"
sentence_of why.NotScript = codes "not a line of a script; asm says what is wrong with it"
sentence_of why.Duty = codes "a duty is MUST, MUST?, SHOULD or MAY"
sentence_of why.Reaction = codes "a reaction is -, connection CODE or stream N CODE"
sentence_of why.Status = codes "a status is N or !N"

-- a text was read as it says, or refused for its reason; or memory was refused
abbrev pub Reads : {X : Type 0} → Result X LineRefusal → Result X Why → Type 0
Reads (Ok x) said = said ≡ Ok x
Reads (Err refusal.NoMemory) said = Unit {0}
Reads (Err (refusal.Because why)) said = said ≡ Err why
