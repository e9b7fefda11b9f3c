-- The explanation that a page is given of a run.
use Rattle.std.specs.Prelude.{◌≡◌, ◌++◌, ℕ, Bool, true, false, List, [], Option, Some, None, Result, Ok, Err}
use Rattle.h2_spec.specs.Requests.Answer.{Entry}
use Rattle.h2_spec.specs.State.{State, is_allowed, opening}
use Rattle.h2_spec.specs.declared.connection.Config.{Config}
use Rattle.h2_cmd_play.specs.Books.{book_of}
use Rattle.h2_cmd_play.specs.Faults as numbers
use Rattle.h2_explain.specs.Explains.{IsExplanation}
use Rattle.h2_explain.specs.declared.run.ExplainFault.{ExplainFault}
use Rattle.h2_explain.specs.declared.run.ExplainFault.TheVariants as explain
use Rattle.h2_explain.specs.declared.run.Form.{Form}
use Rattle.h2_explain.specs.declared.run.Summary.{Summary}
use Rattle.h2_page.specs.Web.{answers_said}
use Rattle.h2_page.specs.declared.fault.WebFault.{WebFault}
use Rattle.h2_page.specs.declared.fault.WebFault.TheVariants.{NoMemory, NoRoom, BadConfig, BadAnswer, NoText, Syntax}
use Rattle.h2_page.specs.declared.run.RunFault.{RunFault}
use Rattle.h2_page.specs.declared.run.RunFault.TheVariants as run

-- the form of `explain` without options, or with --json, --full and --strict
abbrev pub form_for : (json : Bool) → Form
form_for json = record { json = json; color = false; strict = json; full = json; brief = false; errors = false; stream = None }

-- how an explanation ended
abbrev pub explained_as : Result Summary ExplainFault → Result (Unit {0}) RunFault
explained_as (Ok summary) = Ok tt
explained_as (Err explain.NoMemory) = Err run.NoMemory
explained_as (Err explain.NotWritten) = Err run.NotWritten

-- an output gained the explanation of a connection in this state over octets, if none was refused
abbrev pub ExplainsFrom : Form → State → List ℕ → List ℕ → Option (List ℕ) → Result (Unit {0}) RunFault → Type 0
ExplainsFrom form s octets held after (Ok u) = (text : List ℕ) × (after ≡ Some (held ++ text)) × IsExplanation form false s octets text
ExplainsFrom form s octets held after (Err run.BadConfig) = ⊥
ExplainsFrom form s octets held after (Err run.NoMemory) = Unit {0}
ExplainsFrom form s octets held after (Err run.NotWritten) = Unit {0}

-- the same of a new connection
abbrev pub ExplainsInto : Form → Config → List Entry → List ℕ → List ℕ → Option (List ℕ) → Result (Unit {0}) RunFault → Type 0
ExplainsInto form config book octets held after (Ok u) = (is_allowed config ≡ true) × ExplainsFrom form (opening book config) octets held after (Ok u)
ExplainsInto form config book octets held after (Err run.BadConfig) = is_allowed config ≡ false
ExplainsInto form config book octets held after (Err run.NoMemory) = Unit {0}
ExplainsInto form config book octets held after (Err run.NotWritten) = Unit {0}

-- its text, whole or none
abbrev pub ExplainedText : Form → Config → List Entry → List ℕ → List ℕ → Result (Unit {0}) RunFault → Type 0
ExplainedText form config book octets text (Ok u) = (is_allowed config ≡ true) × IsExplanation form false (opening book config) octets text
ExplainedText form config book octets text (Err run.BadConfig) = (text ≡ []) × (is_allowed config ≡ false)
ExplainedText form config book octets text (Err run.NoMemory) = text ≡ []
ExplainedText form config book octets text (Err run.NotWritten) = text ≡ []

-- the explanation of a new connection over octets with the book of the answers, as `explain` writes it; else none, and
-- why
abbrev pub Explains : Form → Config → List ℕ → List ℕ → List ℕ → Result (Unit {0}) WebFault → Type 0
Explains form config answers octets text (Ok u) = (book : List Entry) × (book_of [] (answers_said answers) ≡ Ok book) × (is_allowed config ≡ true) × IsExplanation form false (opening book config) octets text
Explains form config answers octets text (Err NoMemory) = text ≡ []
Explains form config answers octets text (Err NoRoom) = text ≡ []
Explains form config answers octets text (Err BadConfig) = (text ≡ []) × (is_allowed config ≡ false)
Explains form config answers octets text (Err (BadAnswer line fault)) = (text ≡ []) × (book_of [] (answers_said answers) ≡ Err (numbers.fault_number fault))
Explains form config answers octets text (Err NoText) = ⊥
Explains form config answers octets text (Err (Syntax line kind)) = ⊥
