-- How a run of the program ends, whatever the words ask for.
use Rattle.std.specs.Prelude.{◌≡◌, ◌⊎◌, ◌≤◌, ℕ, Bool, true, false, if◌then◌else◌, List, [], ◌∷◌, ◌++◌, length, Option, Some, None, Result, Ok, Err}
use Rattle.std.specs.String.{string_bytes}
use Rattle.h2_spec.specs.Requests.Answer.{Entry}
use Rattle.h2_spec.specs.declared.connection.Config.{Config}
use Rattle.h2_cmd_book_file.specs.Entries.{Directory}
use Rattle.h2_explain.specs.declared.run.Form.{Form}
use Rattle.h2_spec.specs.State.{is_allowed}
use Rattle.h2_serve.specs.declared.driving.drive_fault.DriveEnd.{DriveEnd}
use Rattle.h2_serve.specs.declared.driving.drive_fault.DriveFault.{DriveFault}
use Rattle.h2_serve.specs.Faults as serving
use Rattle.h2_serve.specs.Lines.{end_lines, listening_line}
use Rattle.h2_serve.specs.Wires.{grown}
use Rattle.h2_serve.specs.Ports.{Event, Listening, ListensSome, localhost, start_of}
use Rattle.h2_serve.specs.Serves.{Gains, Serves}
use Rattle.h2_serve.specs.Shown.{GainsAllShown, clients_status}
use Rattle.h2_serve.specs.declared.explained.explain.Clients.{Clients}
use Rattle.h2_serve.specs.declared.fault.ServeFault.{ServeFault}
use Rattle.h2_serve.specs.declared.fault.ServeFault.TheVariants as server
use Rattle.h2_debug.specs.Session as session
use Rattle.h2_cmd_args.specs.Grammar.{Asked, BatchAsked, BookAsked, batch, debug, serve, explain, check, against}
use Rattle.h2_cmd_args.specs.declared.command.Refusal.{Refusal}
use Rattle.h2_cmd_args.specs.declared.command.Refusal.TheVariants as words
use Rattle.h2_cmd_batch.specs.Books.{book_said}
use Rattle.h2_cmd_batch.specs.CommandEnd.{Prints, PrintsSome, asks_why_batch}
use Rattle.h2_cmd_batch.specs.Faults.{fault_line}
use Rattle.h2_cmd_batch.specs.Printed.{Printed, cut_short, failed, places_within, refused, printed_within}
use Rattle.h2_cmd_batch.specs.Input.{octets_of}
use Rattle.h2_cmd_batch.specs.declared.fault.BenchFault.TheVariants.{BadConfig, BadHex, NoMemory, Read}

-- the same where nobody sees which calls failed
abbrev pub EndsSomehow : Directory → BatchAsked → Option (List ℕ) → Option (List ℕ) → Option (List ℕ) → ℕ → Type 0
EndsSomehow files asked input before after status =
    (octets held : List ℕ) → input ≡ Some octets → before ≡ Some held → (status ≡ 3)
    ⊎ (((count : ℕ) × Prints (cut_short count (places_within files asked octets)) held after status) ⊎ (Prints (failed Read) held after status ⊎ Prints (printed_within files asked octets) held after status))

-- what is printed for words that were refused: what there is to say of them, with status 2; or memory was refused
abbrev pub printed_for : Refusal → Printed
printed_for (words.Words text) = record { text = string_bytes text; status = 2 }
printed_for words.NoMemory = failed NoMemory

-- words that ask for nothing: memory was refused, or what there is to say of them is said, with status 2
abbrev pub IsRefusal : Printed → Type 0
IsRefusal t = (t ≡ failed NoMemory) ⊎ (t.status ≡ 2)

-- the output gained such an answer
abbrev pub PrintsRefusal : Option (List ℕ) → Option (List ℕ) → ℕ → Type 0
PrintsRefusal before after status = PrintsSome IsRefusal before after status

-- ---- sessions, and connections that are served

-- the entries of a book, the limits, the octets of the input, whether its last read failed, what it has left, what is printed
abbrev pub SessionKind : Type 1
SessionKind = List Entry → Config → List ℕ → Bool → Option (List ℕ) → session.Printed → Type 0

-- what h2_debug says of such a session with the entries of a book; or the fault of the book
abbrev pub SessionAs : SessionKind → Result (List Entry) ℕ → Config → Option (List ℕ) → Option (List ℕ) → Bool → Option (List ℕ) → Option (List ℕ) → ℕ → Type 0
SessionAs IsSome (Err fault) config input left input_failed before after status = PrintsSome (λ t. t ≡ refused fault) before after status
SessionAs IsSome (Ok entries) config input left input_failed before after status =
    (octets held : List ℕ) → input ≡ Some octets → before ≡ Some held
    → (t : session.Printed) × IsSome entries config octets input_failed left t × session.Prints t held after status

-- a text and its status, as h2_debug has them
abbrev pub in_session : Printed → session.Printed
in_session t = record { text = t.text; status = t.status }

-- memory was refused, and nothing was read; or this is such a session; `left` is what the input has left after it
abbrev pub EndsSessionAs : SessionKind → Result (List Entry) ℕ → Config → Option (List ℕ) → Option (List ℕ) → Bool → Option (List ℕ) → Option (List ℕ) → ℕ → Type 0
EndsSessionAs IsSome book config input left input_failed before after status =
    (PrintsSome (λ t. t ≡ failed NoMemory) before after status × (input_failed ≡ false)) ⊎ SessionAs IsSome book config input left input_failed before after status

-- a session over an input
abbrev pub EndsSession : Directory → Config → BookAsked → Option (List ℕ) → Option (List ℕ) → Bool → Option (List ℕ) → Option (List ℕ) → ℕ → Type 0
EndsSession files config book = EndsSessionAs session.IsSession (book_said files book) config

-- a session over octets that are not of the input, where there are some, and the limits are allowed
abbrev pub IsSessionGiven : (allowed : Bool) → Option (List ℕ) → SessionKind
IsSessionGiven allowed None book config octets input_failed left t = t ≡ in_session (failed BadHex)
IsSessionGiven false (Some peer) book config octets input_failed left t = t ≡ in_session (failed BadConfig)
IsSessionGiven true (Some peer) book config octets input_failed left t = session.IsSessionOver peer book config octets input_failed left t

-- a session over the octets of a text that is not of the input
abbrev pub EndsSessionOver : (raw : Bool) → List ℕ → Directory → Config → BookAsked → Option (List ℕ) → Option (List ℕ) → Bool → Option (List ℕ) → Option (List ℕ) → ℕ → Type 0
EndsSessionOver raw text files config book = EndsSessionAs (IsSessionGiven (is_allowed config) (octets_of raw text)) (book_said files book) config

-- nothing is printed for words that ask for connections to be served, and the status is 2; or memory was refused
abbrev pub EndsServe : Option (List ℕ) → Option (List ℕ) → ℕ → Type 0
EndsServe before after status = ((status ≡ 2) × (after ≡ before)) ⊎ PrintsSome (λ t. t ≡ failed NoMemory) before after status

-- that many connections were served with this book and these limits: the port of this host was listened on and its line
-- printed, and then the clients were accepted, driven and closed, one after another, and a line printed for each of them
abbrev pub IsServed : List Entry → Config → (port count : ℕ) → (before after : Option (List ℕ)) → (log log' : Option (List Event)) → Type 0
IsServed book config port count before after log log' = (is_allowed config ≡ true)
    × Serves (start_of book config) (listening_line port) count before after (grown log (Listening localhost port ∷ [])) log'

-- whatever the status: with such a book nothing else was done with the port and its clients; or nothing at all
abbrev pub DrivesNoOther : (List Entry → Type 0) → Config → (port count : ℕ) → (log log' : Option (List Event)) → Type 0
DrivesNoOther IsBook config port count log log' =
    (log' ≡ log) ⊎ ((book : List Entry) × IsBook book × ListensSome (start_of book config) port count log log')

-- the line of the fault that ended a server was printed
abbrev pub IsReported : Result (Unit {0}) ServeFault → Option (List ℕ) → Option (List ℕ) → Type 0
IsReported (Ok u) before after = ⊥
IsReported (Err server.NoMemory) before after = Gains before after (fault_line (serving.fault_number server.NoMemory))
IsReported (Err server.BadConfig) before after = Gains before after (fault_line (serving.fault_number server.BadConfig))
IsReported (Err server.Write) before after = ⊥
IsReported (Err server.Socket) before after = Gains before after (fault_line (serving.fault_number server.Socket))

-- a fault ended it: its line was printed, after nothing else, or after the line of the port and those of at most `count`
-- connections
pub record EndsInFault (port count : ℕ) (before after : Option (List ℕ)) : Type 0 where
  pub fault : ℕ
  pub text : List ℕ
  pub front : (text ≡ []) ⊎ ((ends : List (Result DriveEnd DriveFault)) × (length ends ≤ count) × (text ≡ listening_line port ++ end_lines 1 ends))
  pub printed : Gains before after (text ++ fault_line fault)

-- that many connections were served and explained: the line of the port was printed, and then what is printed of each of
-- them; the status is 0, or with `--strict` that of the verdict on all clients
abbrev pub IsShown : Form → List Entry → Config → (port count : ℕ) → (before after : Option (List ℕ)) → (log log' : Option (List Event)) → ℕ → Type 0
IsShown form book config port count before after log log' status =
    (clients : Clients) × (is_allowed config ≡ true)
    × GainsAllShown form (start_of book config) (listening_line port) count clients before after (grown log (Listening localhost port ∷ [])) log'
    × (status ≡ (if form.strict then clients_status clients else 0))

-- a fault ended it, and its line is the last that was printed
abbrev pub EndsInLine : (before after : Option (List ℕ)) → Type 0
EndsInLine before after = (text : List ℕ) × (fault : ℕ) × Gains before after (text ++ fault_line fault)

-- with such a book; or a fault ended it and its line was printed, or the output failed
abbrev pub EndsShown : (List Entry → Type 0) → Form → Config → (port count : ℕ) → (before after : Option (List ℕ)) → (log log' : Option (List Event)) → ℕ → Type 0
EndsShown IsBook form config port count before after log log' status =
    ((status ≡ 1) × EndsInLine before after) ⊎ ((status ≡ 3) ⊎ ((book : List Entry) × IsBook book × IsShown form book config port count before after log log' status))

-- whether words ask for connections to be served, or for a server to be judged
abbrev pub is_serve : Option Asked → Bool
is_serve None = false
is_serve (Some (batch b)) = false
is_serve (Some (debug config book)) = false
is_serve (Some (serve config port count watched book)) = true
is_serve (Some (explain config view raw file book)) = false
is_serve (Some (check config book bless in_place junit names)) = false
is_serve (Some (against config book port wait path authority judge junit names)) = true

-- whether anything is read for words
abbrev pub is_reader : Option Asked → Bool
is_reader None = false
is_reader (Some (batch b)) = true
is_reader (Some (debug config book)) = true
is_reader (Some (serve config port count watched book)) = false
is_reader (Some (explain config view raw file book)) = true
is_reader (Some (check config book bless in_place junit names)) = false
is_reader (Some (against config book port wait path authority judge junit names)) = false

abbrev pub asks_why : Option Asked → Bool
asks_why None = false
asks_why (Some (batch b)) = asks_why_batch b
asks_why (Some (debug config book)) = book.why
asks_why (Some (serve config port count watched book)) = book.why
asks_why (Some (explain config view raw file book)) = book.why
asks_why (Some (check config book bless in_place junit names)) = book.why
asks_why (Some (against config book port wait path authority judge junit names)) = book.why
