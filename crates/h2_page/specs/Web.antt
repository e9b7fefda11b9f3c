-- What a page is given by each call, and how the call ended.
use Rattle.std.specs.Prelude.{◌≡◌, ◌⊎◌, ◌++◌, ℕ, true, false, List, [], ◌∷◌, Option, Some, Result, Ok, Err, take}
use Rattle.std.specs.List.{concat}
use Rattle.std.specs.Str.{IsUtf8}
use Rattle.h2_spec.specs.Requests.Answer.{Entry}
use Rattle.h2_spec.specs.Texts.Assemble.{assembled}
use Rattle.h2_spec.specs.Texts.Script.{kind_number, lines_of}
use Rattle.h2_spec.specs.State.{is_allowed}
use Rattle.h2_spec.specs.Texts.Written.{written}
use Rattle.h2_spec.specs.declared.connection.Config.{Config}
use Rattle.h2_cmd_play.specs.Books.{book_of}
use Rattle.h2_cmd_play.specs.Faults as numbers
use Rattle.h2_cmd_play.specs.declared.fault.AnswerFault.{AnswerFault}
use Rattle.h2_cmd_play.specs.declared.fault.AnswerFault.TheVariants as answer
use Rattle.h2_cmd_play.specs.Places.{places_run, places_shown}
use Rattle.h2_cmd_play.specs.declared.places.PlacesFault.{PlacesFault}
use Rattle.h2_cmd_play.specs.declared.places.PlacesFault.TheVariants as places
use Rattle.h2_cmd_play.specs.declared.places.ShownPlaces.{ShownPlaces}
use Rattle.h2_page.specs.declared.answers.RefusedLine.{RefusedLine}
use Rattle.h2_page.specs.declared.fault.CallEnd.{CallEnd}
use Rattle.h2_page.specs.declared.fault.WebFault.{WebFault}
use Rattle.h2_page.specs.declared.fault.WebFault.TheVariants.{NoMemory, NoRoom, BadConfig, BadAnswer, NoText, Syntax}
use Rattle.h2_page.specs.declared.run.Asked.{Asked}
use Rattle.h2_page.specs.declared.run.RunFault.{RunFault}
use Rattle.h2_page.specs.declared.run.RunFault.TheVariants as run

-- ---- how a call ended

abbrev pub end_of : Result (Unit {0}) WebFault → CallEnd
end_of (Ok u) = record { fault = 0; kind = 0; line = 0 }
end_of (Err NoMemory) = record { fault = 1; kind = 0; line = 0 }
end_of (Err NoRoom) = record { fault = 2; kind = 0; line = 0 }
end_of (Err BadConfig) = record { fault = 16; kind = 0; line = 0 }
end_of (Err (BadAnswer line fault)) = record { fault = numbers.fault_number fault; kind = 0; line = line }
end_of (Err NoText) = record { fault = 22; kind = 0; line = 0 }
end_of (Err (Syntax line kind)) = record { fault = 18; kind = kind_number kind; line = line }

-- what was put at the front of a place, and the end that was reported: the text, or nothing where it has no space
abbrev pub Puts : List ℕ → Result (Unit {0}) WebFault → List ℕ → CallEnd → Type 0
Puts text ended put end = ((put ≡ text) × (end ≡ end_of ended)) ⊎ ((put ≡ []) × (end ≡ end_of (Err NoRoom)))

-- the end that was reported is one of a call that gives such octets
abbrev pub Gives : (List ℕ → Result (Unit {0}) WebFault → Type 0) → List ℕ → CallEnd → Type 0
Gives IsSuch octets end = (ended : Result (Unit {0}) WebFault) × (end ≡ end_of ended) × IsSuch octets ended

-- ---- the answers

-- a line for each; none in a text that is empty
abbrev pub answers_said : List ℕ → List (List ℕ)
answers_said [] = []
answers_said (octet ∷ octets) = lines_of (octet ∷ octets)

-- why a line of them is refused
abbrev pub refused_line : ℕ → AnswerFault → WebFault
refused_line line answer.NoMemory = NoMemory
refused_line line answer.BadAnswer = BadAnswer line answer.BadAnswer
refused_line line (answer.BadEntry fault) = BadAnswer line (answer.BadEntry fault)

abbrev pub refused_answer : RefusedLine → WebFault
refused_answer refused = refused_line refused.line refused.fault

-- ---- the texts of a run

abbrev pub config_of : ℕ → ℕ → ℕ → ℕ → ℕ → Config
config_of streams credit table window frame = record { streams = streams; credit = credit; table = table; window = window; frame = frame }

abbrev pub asked_for : Config → ℕ → ℕ → Asked
asked_for config first last = record { config = config; shown = record { first = first; last = Some last } }

-- the places of a new connection that are shown: the start is place 0, the first item place 1
abbrev pub run_shown : Asked → List Entry → List ℕ → List (List ℕ)
run_shown asked book octets = places_shown asked.shown (places_run book asked.config octets)

-- those of some first part of the run
abbrev pub SomeShown : Asked → List Entry → List ℕ → List ℕ → Type 0
SomeShown asked book octets text = (count : ℕ) × (text ≡ concat (places_shown asked.shown (take count (places_run book asked.config octets))))

abbrev pub ended_as : Result (Unit {0}) PlacesFault → Result (Unit {0}) RunFault
ended_as (Ok u) = Ok u
ended_as (Err places.NoMemory) = Err run.NoMemory
ended_as (Err places.NotWritten) = Err run.NotWritten

-- an output gained the places of a new connection that are shown
abbrev pub RunsInto : Asked → List Entry → List ℕ → List ℕ → Option (List ℕ) → Result (Unit {0}) RunFault → Type 0
RunsInto asked book octets held after (Ok u) = (is_allowed asked.config ≡ true) × (after ≡ Some (held ++ concat (run_shown asked book octets)))
RunsInto asked book octets held after (Err run.NoMemory) = (text : List ℕ) × SomeShown asked book octets text × (after ≡ Some (held ++ text))
RunsInto asked book octets held after (Err run.BadConfig) = (is_allowed asked.config ≡ false) × (after ≡ Some held)
RunsInto asked book octets held after (Err run.NotWritten) = Unit {0}

-- its text
abbrev pub RunText : Asked → List Entry → List ℕ → List ℕ → Result (Unit {0}) RunFault → Type 0
RunText asked book octets text (Ok u) = (is_allowed asked.config ≡ true) × (text ≡ concat (run_shown asked book octets))
RunText asked book octets text (Err run.NoMemory) = SomeShown asked book octets text
RunText asked book octets text (Err run.BadConfig) = (is_allowed asked.config ≡ false) × (text ≡ [])
RunText asked book octets text (Err run.NotWritten) = ⊥

-- how a run ended, as the page is reported
abbrev pub told : Result (Unit {0}) RunFault → Result (Unit {0}) WebFault
told (Ok u) = Ok u
told (Err run.BadConfig) = Err BadConfig
told (Err run.NoMemory) = Err NoMemory
told (Err run.NotWritten) = Err NoMemory

-- the texts that are shown of a run with the book of the answers; with too little memory those of some first part of
-- it; else none, and why
abbrev pub ShowsRun : Asked → List ℕ → List ℕ → List ℕ → Result (Unit {0}) WebFault → Type 0
ShowsRun asked answers octets text (Ok u) = (book : List Entry) × (book_of [] (answers_said answers) ≡ Ok book) × (is_allowed asked.config ≡ true) × (text ≡ concat (run_shown asked book octets))
ShowsRun asked answers octets text (Err NoMemory) = (text ≡ []) ⊎ ((book : List Entry) × (book_of [] (answers_said answers) ≡ Ok book) × SomeShown asked book octets text)
ShowsRun asked answers octets text (Err NoRoom) = text ≡ []
ShowsRun asked answers octets text (Err BadConfig) = (text ≡ []) × (is_allowed asked.config ≡ false)
ShowsRun asked answers octets text (Err (BadAnswer line fault)) = (text ≡ []) × (book_of [] (answers_said answers) ≡ Err (numbers.fault_number fault))
ShowsRun asked answers octets text (Err NoText) = ⊥
ShowsRun asked answers octets text (Err (Syntax line kind)) = ⊥

-- ---- scripts

-- the octets of a script; else none, and why: its first bad line
abbrev pub AssemblesTo : List ℕ → List ℕ → Result (Unit {0}) WebFault → Type 0
AssemblesTo text octets (Ok u) = IsUtf8 text × (assembled text ≡ Ok octets)
AssemblesTo text octets (Err NoMemory) = octets ≡ []
AssemblesTo text octets (Err NoRoom) = octets ≡ []
AssemblesTo text octets (Err BadConfig) = ⊥
AssemblesTo text octets (Err (BadAnswer line fault)) = ⊥
AssemblesTo text octets (Err NoText) = (octets ≡ []) × ¬ IsUtf8 text
AssemblesTo text octets (Err (Syntax line kind)) = (octets ≡ []) × IsUtf8 text × (assembled text ≡ Err (line, kind))

-- the script that is written for octets; else none
abbrev pub SaysScript : List ℕ → List ℕ → Result (Unit {0}) WebFault → Type 0
SaysScript octets text (Ok u) = text ≡ written octets
SaysScript octets text (Err NoMemory) = text ≡ []
SaysScript octets text (Err NoRoom) = text ≡ []
SaysScript octets text (Err BadConfig) = ⊥
SaysScript octets text (Err (BadAnswer line fault)) = ⊥
SaysScript octets text (Err NoText) = ⊥
SaysScript octets text (Err (Syntax line kind)) = ⊥
