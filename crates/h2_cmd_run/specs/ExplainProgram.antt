-- What `explain` reports: the explanation of a run, of which h2_explain defines what is fixed, its status, and the faults.
use Rattle.std.specs.Prelude.{◌≡◌, ◌⊎◌, ℕ, Bool, true, false, if◌then◌else◌, List, [], ◌∷◌, length, nat_lt, Option, Some, None, Result, Ok, Err}
use Rattle.h2_spec.specs.Requests.Answer.{Entry}
use Rattle.h2_spec.specs.declared.connection.Config.{Config}
use Rattle.h2_spec.specs.declared.connection.Phase.{Phase}
use Rattle.h2_spec.specs.declared.connection.Phase.TheVariants.{Preface, Settings, Running, Ended}
use Rattle.h2_spec.specs.State.{State, is_allowed, opening}
use Rattle.h2_spec.specs.Trace.{trace}
use Rattle.h2_cmd_book_file.specs.Entries.{Directory}
use Rattle.h2_explain.specs.Explains.{IsExplanation}
use Rattle.h2_explain.specs.Verdicts.{IsVerdict, strict_status}
use Rattle.h2_explain.specs.declared.run.Form.{Form}
use Rattle.h2_explain.specs.declared.verdict.ClientVerdict.{ClientVerdict}
use Rattle.h2_explain.specs.declared.run.ExplainFault.{ExplainFault}
use Rattle.h2_explain.specs.declared.run.ExplainFault.TheVariants as explained
use Rattle.h2_cmd_args.specs.Grammar.{BookAsked, FormAsked}
use Rattle.h2_cmd_batch.specs.Books.{book_said}
use Rattle.h2_cmd_batch.specs.Input.{most, octets_of}
use Rattle.h2_cmd_batch.specs.Printing.{Printed, failed, failed_as, failed_after_as, refused_as}
use Rattle.h2_cmd_batch.specs.CommandEnd.{PrintsSome}
use Rattle.h2_cmd_batch.specs.declared.commands.each.PrintFault.{PrintFault}
use Rattle.h2_cmd_batch.specs.declared.commands.each.PrintFault.TheVariants.{Fault, NotWritten}
use Rattle.h2_cmd_run.specs.declared.explain.ExplainOutcome.{ExplainOutcome}
use Rattle.h2_cmd_batch.specs.declared.fault.BenchFault.TheVariants.{BadConfig, BadHex, NoMemory, Read}

-- ---- a run

-- the form that the words ask for
abbrev pub form_of : FormAsked → Form
form_of view = record { json = view.json; color = view.color; strict = view.strict; full = view.full; brief = view.brief; errors = view.errors; stream = view.stream }

-- the status of a run that ends in this phase: 4 where a connection error ended the connection
abbrev pub run_status : Phase → ℕ
run_status Preface = 0
run_status Settings = 0
run_status Running = 0
run_status (Ended code) = 4

-- whether a connection error ended the connection
abbrev pub is_over : Phase → Bool
is_over Preface = false
is_over Settings = false
is_over Running = false
is_over (Ended code) = true

-- the status of a run over the octets: with `--strict` that of what is said about the client
abbrev pub IsStatus : (strict : Bool) → State → List ℕ → ℕ → Type 0
IsStatus false s octets status = status ≡ run_status (trace s octets).state.core.phase
IsStatus true s octets status = (v : ClientVerdict) × IsVerdict s octets v × (status ≡ strict_status v (is_over (trace s octets).state.core.phase))

-- the explanation of the run over the octets, with its status; or nothing, or that of some first items, and then memory
-- was refused
abbrev pub ReportsRun : Form → State → List ℕ → Printed → Type 0
ReportsRun form s octets t =
    (IsStatus form.strict s octets t.status × IsExplanation form false s octets t.text)
    ⊎ ((t ≡ failed_after_as form.json [] NoMemory) ⊎ ((text : List ℕ) × IsExplanation form true s octets text × (t ≡ failed_after_as form.json text NoMemory)))

-- where the limits are allowed
abbrev pub ReportsAllowed : Form → Bool → List Entry → Config → List ℕ → Printed → Type 0
ReportsAllowed form false book config octets t = t ≡ failed_as form.json BadConfig
ReportsAllowed form true book config octets t = ReportsRun form (opening book config) octets t

abbrev pub ReportsSpelled : Form → List Entry → Config → Option (List ℕ) → Printed → Type 0
ReportsSpelled form book config None t = t ≡ failed_as form.json BadHex
ReportsSpelled form book config (Some octets) t = ReportsAllowed form (is_allowed config) book config octets t

-- of a text: the octets themselves, or their hex
abbrev pub ReportsText : Form → (raw : Bool) → List Entry → Config → List ℕ → Printed → Type 0
ReportsText form raw book config text t = ReportsSpelled form book config (octets_of raw text) t

-- ---- where the text is

-- a text that is too long is not read
abbrev pub ReportsIfShort : Form → (raw : Bool) → Bool → List Entry → Config → List ℕ → Printed → Type 0
ReportsIfShort form raw true book config text t = t ≡ failed_as form.json Read
ReportsIfShort form raw false book config text t = ReportsText form raw book config text t

abbrev pub ReportsRead : Form → (raw : Bool) → List Entry → Config → List ℕ → Printed → Type 0
ReportsRead form raw book config text t = ReportsIfShort form raw (nat_lt most (length text)) book config text t

-- the text of a file
abbrev pub ReportsFile : Form → (raw : Bool) → List Entry → Config → Option (List ℕ) → Printed → Type 0
ReportsFile form raw book config None t = t ≡ failed_as form.json Read
ReportsFile form raw book config (Some text) t = ReportsRead form raw book config text t

-- the text of the input, where no read failed
abbrev pub ReportsInput : Form → (raw : Bool) → List Entry → Config → Option (List ℕ) → Bool → Printed → Type 0
ReportsInput form raw book config input true t = t ≡ failed_as form.json Read
ReportsInput form raw book config input false t = (text : List ℕ) → input ≡ Some text → ReportsRead form raw book config text t

-- that of the file where one is named, else that of the input
abbrev pub ReportsFrom : Form → (raw : Bool) → Directory → List ℕ → Option (List ℕ) → Bool → List Entry → Config → Printed → Type 0
ReportsFrom form raw files [] input input_failed book config t = ReportsInput form raw book config input input_failed t
ReportsFrom form raw files (octet ∷ octets) input input_failed book config t = ReportsFile form raw book config (files (octet ∷ octets)) t

-- ---- the program

-- the fault of the book is found before anything is read
abbrev pub ReportsWith : Form → (raw : Bool) → Result (List Entry) ℕ → Directory → List ℕ → Option (List ℕ) → Bool → Config → Printed → Type 0
ReportsWith form raw (Err fault) files file input input_failed config t = t ≡ refused_as form.json fault
ReportsWith form raw (Ok book) files file input input_failed config t = ReportsFrom form raw files file input input_failed book config t

-- memory was refused before anything was written, for words that were not parsed too, and no read failed
abbrev pub IsOutOfMemory : (json input_failed : Bool) → Printed → Type 0
IsOutOfMemory json input_failed t = ((t ≡ failed NoMemory) ⊎ (t ≡ failed_as json NoMemory)) × (input_failed ≡ false)

-- that, or what is reported with this book
abbrev pub IsReported : Form → (raw : Bool) → Directory → Config → List ℕ → List Entry → Option (List ℕ) → Bool → Printed → Type 0
IsReported form raw files config file book input input_failed t = IsOutOfMemory form.json input_failed t ⊎ ReportsFrom form raw files file input input_failed book config t

-- that, or this is reported. So where a read failed, `fault 22` is all that is reported
abbrev pub IsExplained : Form → (raw : Bool) → Directory → Config → List ℕ → BookAsked → Option (List ℕ) → Bool → Printed → Type 0
IsExplained form raw files config file book input input_failed t = IsOutOfMemory form.json input_failed t ⊎ ReportsWith form raw (book_said files book) files file input input_failed config t

-- where no write failed: the output gained such a text, and the status is its
abbrev pub EndsExplain : Form → (raw : Bool) → Directory → Config → List ℕ → BookAsked → Option (List ℕ) → Bool → Option (List ℕ) → Option (List ℕ) → ℕ → Type 0
EndsExplain form raw files config file book input input_failed before after status = PrintsSome (λ t. IsExplained form raw files config file book input input_failed t) before after status

-- ---- how an explanation ends

-- the status of an explanation that was written whole
abbrev pub outcome_status : ExplainOutcome → ℕ
outcome_status o = if o.strict then strict_status o.verdict o.ended else if o.ended then 4 else 0

-- whether a write failed
abbrev pub cut_off : Result ExplainOutcome PrintFault → Bool
cut_off (Ok outcome) = false
cut_off (Err (Fault fault)) = false
cut_off (Err NotWritten) = true

-- what is reported in all, where a text was written and then it ended so
abbrev pub explained_after : (json : Bool) → List ℕ → Result ExplainOutcome PrintFault → Printed
explained_after json text (Ok outcome) = record { text = text; status = outcome_status outcome }
explained_after json text (Err (Fault fault)) = failed_after_as json text fault
explained_after json text (Err NotWritten) = record { text = text; status = 3 }

-- the end of an explanation that was cut short
abbrev pub end_of : ExplainFault → PrintFault
end_of explained.NoMemory = Fault NoMemory
end_of explained.NotWritten = NotWritten
