-- What the program prints: the results of the cases of files, after them the rules that were broken and how many cases there
-- are of each kind; and the status.
use Rattle.std.specs.Prelude.{◌≡◌, ◌⊎◌, ◌++◌, ℕ, Bool, true, false, List, [], ◌∷◌, codes, drop, flat_map, map, unwrap_or, Option, Some, None, Result, Ok, Err}
use Rattle.std.specs.Io.KnownBytes.{Appends}
use Rattle.std.specs.Option.{option_map}
use Rattle.h2_spec.specs.Requests.Answer.{Entry}
use Rattle.h2_io.specs.HexText.{octets_spelled}
use Rattle.h2_cmd_args.specs.Grammar.{BookAsked}
use Rattle.h2_cmd_args.specs.Plans.{book_asked}
use Rattle.h2_cmd_args.specs.declared.command.Against.{Against}
use Rattle.h2_cmd_batch.specs.Books.{book_said}
use Rattle.h2_cmd_batch.specs.CommandEnd.{PrintsSome}
use Rattle.h2_cmd_batch.specs.Printing.{Printed, failed, failed_after, refused}
use Rattle.h2_cmd_batch.specs.declared.fault.BenchFault.{BenchFault}
use Rattle.h2_cmd_batch.specs.declared.fault.BenchFault.TheVariants.{NoMemory, Read, Socket}
use Rattle.h2_cmd_book_file.specs.Entries.{Directory}
use Rattle.h2_cmd_book_file.specs.Files.{Replaces}
use Rattle.h2_cmd_check.specs.JUnit.{FileResults, junit_file}
use Rattle.h2_cmd_exchange.specs.Links.{LinkEvent}
use Rattle.h2_cmd_against.specs.Aims.{Aimed, aim_said}
use Rattle.h2_cmd_against.specs.Files.{JudgesAll, Trial, cases_with}
use Rattle.h2_cmd_against.specs.Results.{SoFar, emptied, end_text, is_passed, no_case}
use Rattle.h2_cmd_against.specs.Servers.{Surveys}
use Rattle.h2_cmd_against.specs.declared.program.Stop.{Stop}
use Rattle.h2_cmd_against.specs.declared.program.Stop.TheVariants as stop
use Rattle.h2_cmd_against.specs.declared.server.Server.{Server}

-- ---- what is asked for

-- whether octets are judged that were recorded, where requests go, the file that is to have the results as XML, the book, and
-- the files
pub record Task : Type 0 where
  pub recorded : Bool
  pub aim : Aimed
  pub junit : List ℕ
  pub book : BookAsked
  pub names : List (List ℕ)

abbrev pub task_of : Against → Task
task_of a = record {
  recorded = a.judge;
  aim = aim_said a.path.now a.authority.now;
  junit = a.junit.now;
  book = book_asked a.book;
  names = map (λ n. n.now) a.files.items;
}

-- ---- what is known of the server

-- the octets of a text: those that it spells in hex, or as they are where it is no hex
abbrev pub recorded_octets : List ℕ → List ℕ
recorded_octets text = unwrap_or (octets_spelled text) text

-- the octets that were recorded in a file
abbrev pub recorded_at : Directory → (path : List ℕ) → Option (List ℕ)
recorded_at files path = option_map recorded_octets (files path)

-- they are those of both directions of a connection; no status is known
pub record IsRecorded (files : Directory) (client server : List ℕ) (s : Server) : Type 0 where
  pub octets : recorded_at files server ≡ Some s.octets.items
  pub client_octets : option_map (λ c. c.items) s.client ≡ recorded_at files client
  pub statuses : (s.get ≡ 0) × (s.post ≡ 0)

-- the first two files have what was recorded
abbrev pub KnowsRecorded : Directory → (names : List (List ℕ)) → Option (List LinkEvent) → Server → Option (List LinkEvent) → Type 0
KnowsRecorded files [] log s log' = ⊥
KnowsRecorded files (client ∷ []) log s log' = ⊥
KnowsRecorded files (client ∷ server ∷ names) log s log' = IsRecorded files client server s × (log' ≡ log)

-- what is known of a server: by what was recorded, or by two requests
abbrev pub Knows : Aimed → (recorded : Bool) → Directory → (names : List (List ℕ)) → Option (List LinkEvent) → Server → Option (List LinkEvent) → Type 0
Knows aim true files names log s log' = KnowsRecorded files names log s log'
Knows aim false files names log s log' = Surveys aim log (Some s) log'

-- nothing is known: a file can't be read, or nothing listens
abbrev pub Misses : Aimed → (recorded : Bool) → Option (List LinkEvent) → BenchFault → Option (List LinkEvent) → Type 0
Misses aim true log fault log' = fault ≡ Read
Misses aim false log fault log' = (fault ≡ Socket) × Surveys aim log None log'

-- the files that have cases
abbrev pub case_names : {A : Type 0} → (recorded : Bool) → List A → List A
case_names true names = drop 2 names
case_names false names = names

-- ---- the results of files

-- the results of the cases of a file
abbrev pub IsSuite : Trial → SoFar → Option (List LinkEvent) → (name : List ℕ) → FileResults → SoFar → Option (List LinkEvent) → Type 0
IsSuite t s log name suite s' log' =
    (mid : SoFar) × JudgesAll t name (cases_with (t.files name)) (emptied s) log mid log'
    × (suite ≡ record { file = name; results = mid.text }) × (s' ≡ emptied mid)

-- it is cut short, as memory was refused
abbrev pub Stops : (cut : Bool) → List FileResults → Type 0
Stops false suites = ⊥
Stops true suites = suites ≡ []

-- those of files, one after another; or of some first files
abbrev pub AreSuites : (cut : Bool) → Trial → SoFar → Option (List LinkEvent) → (names : List (List ℕ)) → List FileResults → SoFar → Option (List LinkEvent) → Type 0
AreSuites cut t s log [] suites s' log' = (suites ≡ []) × (s' ≡ s) × (log' ≡ log)
AreSuites cut t s log (name ∷ names) suites s' log' =
    Stops cut suites
    ⊎ ((suite : FileResults) × (mid : SoFar) × (between : Option (List LinkEvent)) × IsSuite t s log name suite mid between
    × (rest : List FileResults) × (suites ≡ suite ∷ rest) × AreSuites cut t mid between names rest s' log')

-- their text
abbrev pub texts : List FileResults → List ℕ
texts suites = flat_map (λ s. s.results) suites

-- the output gained it
abbrev pub GainsSuites : (cut : Bool) → Trial → SoFar → Option (List LinkEvent) → (names : List (List ℕ)) → List FileResults → SoFar → Option (List LinkEvent) → (before after : Option (List ℕ)) → Type 0
GainsSuites cut t s log names suites s' log' before after =
    AreSuites cut t s log names suites s' log' × Appends before after (texts suites)

-- that of some first files
abbrev pub CutsSuites : Trial → SoFar → Option (List LinkEvent) → (names : List (List ℕ)) → (before after : Option (List ℕ)) → Type 0
CutsSuites t s log names before after =
    (suites : List FileResults) × (s' : SoFar) × (log' : Option (List LinkEvent)) × GainsSuites true t s log names suites s' log' before after

-- a write failed
abbrev pub is_unwritten : {A : Type 0} → Result A Stop → Bool
is_unwritten (Ok a) = false
is_unwritten (Err stop.NoMemory) = false
is_unwritten (Err stop.NotWritten) = true

-- ---- the program

abbrev pub version_line : List ℕ
version_line = codes "TAP version 13\n"

-- the file that is to have them as XML has them, and no other is changed
abbrev pub IsFiled : (junit : List ℕ) → Directory → List FileResults → Directory → Type 0
IsFiled [] files suites files' = files' ≡ files
IsFiled (octet ∷ octets) files suites files' = Replaces files (octet ∷ octets) (junit_file suites) files'

abbrev pub status_of : (passed : Bool) → ℕ
status_of true = 0
status_of false = 1

-- the lines after results were printed, and the file has the results; or a fault was
abbrev pub IsEnd : (junit : List ℕ) → Directory → SoFar → List FileResults → Directory → Printed → Type 0
IsEnd junit files s suites files' t =
    (IsFiled junit files suites files' × (t ≡ record { text = end_text s.counts s.rules; status = status_of (is_passed s.counts) }))
    ⊎ ((files' ≡ files) × ((fault : BenchFault) × (t ≡ failed fault)))

-- all results, and the lines after them; the status is 0 where no rule is broken and each case can be played
pub record IsWhole (junit : List ℕ) (trial : Trial) (names : List (List ℕ)) (log : Option (List LinkEvent)) (files' : Directory) (log' : Option (List LinkEvent)) (t : Printed) : Type 0 where
  pub so_far : SoFar
  pub suites : List FileResults
  pub are_suites : AreSuites false trial no_case log names suites so_far log'
  pub filed : IsFiled junit trial.files suites files'
  pub whole : t ≡ record { text = version_line ++ texts suites ++ end_text so_far.counts so_far.rules; status = status_of (is_passed so_far.counts) }

-- or those of some first files, and then a fault: memory was refused, or the file was not written
pub record IsCut (trial : Trial) (names : List (List ℕ)) (log : Option (List LinkEvent)) (files' : Directory) (t : Printed) : Type 0 where
  pub so_far : SoFar
  pub suites : List FileResults
  pub after : Option (List LinkEvent)
  pub are_suites : AreSuites true trial no_case log names suites so_far after
  pub kept : files' ≡ trial.files
  pub fault : BenchFault
  pub whole : t ≡ failed_after (version_line ++ texts suites) fault

abbrev pub IsJudged : (junit : List ℕ) → Trial → (names : List (List ℕ)) → Option (List LinkEvent) → Directory → Option (List LinkEvent) → Printed → Type 0
IsJudged junit trial names log files' log' t = IsWhole junit trial names log files' log' t ⊎ IsCut trial names log files' t

-- nothing was judged
abbrev pub IsMissed : Task → Directory → Option (List LinkEvent) → Directory → Option (List LinkEvent) → Printed → Type 0
IsMissed task files log files' log' t =
    (fault : BenchFault) × ((fault ≡ NoMemory) ⊎ Misses task.aim task.recorded log fault log') × (files' ≡ files) × (t ≡ failed fault)

-- the cases of a task
abbrev pub trial : Task → Directory → Server → List Entry → Trial
trial task files server book = record { files = files; aim = task.aim; server = server; book = book }

-- what is known of the server comes first
abbrev pub IsJudgedBy : Task → Directory → List Entry → Option (List LinkEvent) → Directory → Option (List LinkEvent) → Printed → Type 0
IsJudgedBy task files book log files' log' t =
    IsMissed task files log files' log' t
    ⊎ ((server : Server) × (mid : Option (List LinkEvent)) × Knows task.aim task.recorded files task.names log server mid
    × IsJudged task.junit (trial task files server book) (case_names task.recorded task.names) mid files' log' t)

-- with a book that may be refused
abbrev pub IsJudgedWith : Result (List Entry) ℕ → Task → Directory → Option (List LinkEvent) → Directory → Option (List LinkEvent) → Printed → Type 0
IsJudgedWith (Err fault) task files log files' log' t = (files' ≡ files) × (t ≡ refused fault)
IsJudgedWith (Ok book) task files log files' log' t = IsJudgedBy task files book log files' log' t

-- or memory was refused before anything was written
abbrev pub IsSaid : Result (List Entry) ℕ → Task → Directory → Option (List LinkEvent) → Directory → Option (List LinkEvent) → Printed → Type 0
IsSaid said task files log files' log' t = ((files' ≡ files) × (t ≡ failed NoMemory)) ⊎ IsJudgedWith said task files log files' log' t

-- where no write to the output failed: it gained such a text, and the status is its
abbrev pub EndsAgainst : Task → Directory → Option (List LinkEvent) → Directory → Option (List LinkEvent) → (before after : Option (List ℕ)) → (status : ℕ) → Type 0
EndsAgainst task files log files' log' before after status =
    PrintsSome (λ t. IsSaid (book_said files task.book) task files log files' log' t) before after status
