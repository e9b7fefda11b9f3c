-- What is found of the clients of a dialogue, with what they are served, and the status.
use Rattle.std.specs.Prelude.{◌≡◌, ℕ, Bool, ◌==◌, List, length, if◌then◌else◌, Option, Some, None}
use Rattle.h2_cmd_batch.specs.declared.case_setup.CaseSetup.{CaseSetup}
use Rattle.h2_cmd_dialogue.specs.Steps.{Step}
use Rattle.h2_cmd_inject.specs.Views.{IsNumberedView}
use Rattle.h2_cmd_inject.specs.declared.serving.Found.{Found}
use Rattle.h2_explain.specs.declared.run.Form.{Form}
use Rattle.h2_explain.specs.declared.run.Summary.{Summary}
use Rattle.h2_serve.specs.Shown.{clients_status, with_client}
use Rattle.h2_serve.specs.declared.explained.explain.Clients.{Clients}
use Rattle.h2_spec.specs.Requests.Answer.{Entry}
use Rattle.h2_spec.specs.State.{State}
use Rattle.h2_spec.specs.declared.connection.Config.{Config}

-- the limits and the settings of a dialogue that says some, or these
abbrev pub config_with : Config → Option CaseSetup → Config
config_with config None = config
config_with config (Some own) = own.config

-- its answers, if it says some, or these
abbrev pub book_with : List Entry → Option CaseSetup → List Entry
book_with book None = book
book_with book (Some own) = if length own.book == 0 then book else own.book

-- what sums up a connection of which these octets came is that of its view
abbrev pub IsSeen : Form → List Step → (number : ℕ) → State → (octets : List ℕ) → Summary → Type 0
IsSeen form steps number s octets summary = (shown : List ℕ) × IsNumberedView form steps number s octets shown summary

-- it is added to the verdict on the clients before, where connections are shown
abbrev pub AreSeen : Option Form → List Step → (number : ℕ) → State → (octets : List ℕ) → Clients → Clients → Type 0
AreSeen None steps number s octets clients clients' = clients' ≡ clients
AreSeen (Some form) steps number s octets clients clients' =
    (summary : Summary) × IsSeen form steps number s octets summary × (clients' ≡ with_client clients (Some summary))

-- the status: 1 where something is broken of the dialogue, else, with `--strict`, that of the verdict on the clients
abbrev pub found_status : (strict : Bool) → Found → ℕ
found_status strict f = if f.is_broken then 1 else if strict then clients_status f.clients else 0
