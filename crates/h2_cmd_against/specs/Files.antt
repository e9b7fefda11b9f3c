-- The cases of files: what comes of each, and their results one after another.
use Rattle.std.specs.Prelude.{◌≡◌, ◌⊎◌, ℕ, nat_eq, Bool, true, false, List, [], ◌∷◌, codes, length, map, nat_lt, Option, Some, None, Result, Ok, Err}
use Rattle.std.specs.List.{list_any, starts_with}
use Rattle.std.specs.Str.{is_utf8}
use Rattle.std.specs.declared.alloc.Global.{Global}
use Rattle.std.specs.declared.string.String.{String}
use Rattle.h2_spec.specs.Requests.Answer.{Entry}
use Rattle.h2_spec.specs.State.{is_allowed, opening}
use Rattle.h2_spec.specs.Texts.Script.{lines_of}
use Rattle.h2_cmd_batch.specs.CaseSetups.{setup_of}
use Rattle.h2_io.specs.Limit.{most}
use Rattle.h2_cmd_batch.specs.declared.case_setup.Case.{Case}
use Rattle.h2_cmd_batch.specs.declared.case_setup.CaseSetup.{CaseSetup}
use Rattle.h2_cmd_book_file.specs.Entries.{Directory}
use Rattle.h2_cmd_cases.specs.CaseWords.{have_words}
use Rattle.h2_cmd_cases.specs.Files.{cases_in, title_in}
use Rattle.h2_cmd_exchange.specs.Links.{LinkEvent}
use Rattle.h2_cmd_items.specs.CaseItems.{IsCase}
use Rattle.h2_cmd_items.specs.Judgings.{limits_of}
use Rattle.h2_cmd_items.specs.declared.case.CaseItems.{CaseItems}
use Rattle.h2_cmd_items.specs.declared.sent.Sent.{Sent}
use Rattle.h2_cmd_against.specs.Aims.{Aimed, aimed_by, aimed_octets}
use Rattle.h2_cmd_against.specs.Ends.{EndsItems, skip_of}
use Rattle.h2_cmd_against.specs.Results.{Adds, SoFar}
use Rattle.h2_cmd_against.specs.declared.cases.Bench.{Bench}
use Rattle.h2_cmd_against.specs.declared.ends.CaseEnd.{CaseEnd}
use Rattle.h2_cmd_against.specs.declared.ends.CaseEnd.TheVariants.{Refused, Skipped}
use Rattle.h2_cmd_against.specs.declared.ends.Refusal.{Refusal}
use Rattle.h2_cmd_against.specs.declared.ends.Refusal.TheVariants.{BadLimits, NoText, TooLong, Unread, Words}
use Rattle.h2_cmd_against.specs.declared.ends.Skip.{Skip}
use Rattle.h2_cmd_against.specs.declared.server.Server.{Server}

-- ---- what is judged, and by what

-- what cases are judged with: what files have, where requests go, what is known of the server, and the book of cases without
-- words of their own
pub record Trial : Type 0 where
  pub files : Directory
  pub aim : Aimed
  pub server : Server
  pub book : List Entry

abbrev pub trial_of : Directory → Bench → Trial
trial_of files b = record { files = files; aim = aimed_by b.aim; server = b.server.now; book = b.book.now }

-- a case: its file, and its lines
pub record CaseText : Type 0 where
  pub file : List ℕ
  pub lines : List (List ℕ)

abbrev pub text_of : Case → CaseText
text_of c = record { file = c.file.now; lines = map (λ l. l.now) c.lines.now }

-- ---- a case

-- a line says that the RFC leaves a server more than this server does
abbrev pub is_tag : List ℕ → Bool
is_tag line = starts_with nat_eq line (codes "; Own: ")

abbrev pub is_tagged : (lines : List (List ℕ)) → Bool
is_tagged lines = list_any is_tag lines

-- its result is added, of which this came; nothing happened
abbrev pub AddsAlone : CaseEnd → CaseText → SoFar → Option (List LinkEvent) → SoFar → Option (List LinkEvent) → Type 0
AddsAlone end case s log s' log' = Adds case.file (title_in case.lines) [] end s s' × (log' ≡ log)

-- a case with these items is played or judged, and its result is that of what comes of it
abbrev pub JudgesItems : Server → CaseItems → CaseText → SoFar → Option (List LinkEvent) → SoFar → Option (List LinkEvent) → Type 0
JudgesItems server x case s log s' log' = (end : CaseEnd) × EndsItems server x log end log' × Adds case.file (title_in case.lines) x.judged.items end s s'

-- the items of its octets are those of a connection with the book, and with the limits that the server announces
abbrev pub JudgesOctets : Server → List Entry → CaseText → (octets : List ℕ) → SoFar → Option (List LinkEvent) → SoFar → Option (List LinkEvent) → Type 0
JudgesOctets server book case octets s log s' log' =
    ((x : CaseItems) × IsCase (opening book (limits_of server.octets.items)) octets (is_tagged case.lines) x × JudgesItems server x case s log s' log')
    ⊎ ((is_allowed (limits_of server.octets.items) ≡ false) × AddsAlone (Refused BadLimits) case s log s' log')

-- the book is that of the case's words; where these are refused, a text says why
abbrev pub JudgesSetup : Option CaseSetup → Trial → CaseText → (octets : List ℕ) → SoFar → Option (List LinkEvent) → SoFar → Option (List LinkEvent) → Type 0
JudgesSetup None t case octets s log s' log' = (why : String Global) × AddsAlone (Refused (Words why)) case s log s' log'
JudgesSetup (Some setup) t case octets s log s' log' = JudgesOctets t.server setup.book case octets s log s' log'

abbrev pub JudgesWorded : (worded : Bool) → Trial → CaseText → (octets : List ℕ) → SoFar → Option (List LinkEvent) → SoFar → Option (List LinkEvent) → Type 0
JudgesWorded true t case octets s log s' log' = JudgesSetup (setup_of t.files case.file case.lines) t case octets s log s' log'
JudgesWorded false t case octets s log s' log' = JudgesOctets t.server t.book case octets s log s' log'

abbrev pub JudgesSent : Trial → CaseText → (octets : List ℕ) → SoFar → Option (List LinkEvent) → SoFar → Option (List LinkEvent) → Type 0
JudgesSent t case octets s log s' log' = JudgesWorded (have_words case.lines) t case octets s log s' log'

-- unless it is passed over
abbrev pub JudgesUnless : Option Skip → Trial → CaseText → (octets : List ℕ) → SoFar → Option (List LinkEvent) → SoFar → Option (List LinkEvent) → Type 0
JudgesUnless (Some why) t case octets s log s' log' = AddsAlone (Skipped why) case s log s' log'
JudgesUnless None t case octets s log s' log' = JudgesSent t case octets s log s' log'

-- the result of a case of a file was added, by what happened on the connections to the server
abbrev pub JudgesCase : Trial → CaseText → SoFar → Option (List LinkEvent) → SoFar → Option (List LinkEvent) → Type 0
JudgesCase t case s log s' log' = JudgesUnless (skip_of t.server (aimed_octets t.aim case.lines)) t case (aimed_octets t.aim case.lines) s log s' log'

-- ---- the cases of a file

abbrev pub cases_if : (long text : Bool) → List ℕ → List (Result (List (List ℕ)) Refusal)
cases_if true text octets = Err TooLong ∷ []
cases_if false false octets = Err NoText ∷ []
cases_if false true octets = map (λ lines. Ok lines) (cases_in (lines_of octets))

-- the cases of a file with these octets; or why it has none: it is no text that can be read, of at most 16,777,216 octets
abbrev pub cases_with : Option (List ℕ) → List (Result (List (List ℕ)) Refusal)
cases_with None = Err Unread ∷ []
cases_with (Some octets) = cases_if (nat_lt most (length octets)) (is_utf8 octets) octets

-- a file that has none has one result, which says why
abbrev pub RefusesFile : Refusal → (file : List ℕ) → SoFar → SoFar → Type 0
RefusesFile why file s s' = Adds file None [] (Refused why) s s'

-- the result of a case, or of a file that has none
abbrev pub JudgesOne : Trial → (file : List ℕ) → Result (List (List ℕ)) Refusal → SoFar → Option (List LinkEvent) → SoFar → Option (List LinkEvent) → Type 0
JudgesOne t file (Err why) s log s' log' = RefusesFile why file s s' × (log' ≡ log)
JudgesOne t file (Ok lines) s log s' log' = JudgesCase t (record { file = file; lines = lines }) s log s' log'

-- the results of cases, one after another
abbrev pub JudgesAll : Trial → (file : List ℕ) → List (Result (List (List ℕ)) Refusal) → SoFar → Option (List LinkEvent) → SoFar → Option (List LinkEvent) → Type 0
JudgesAll t file [] s log s' log' = (s' ≡ s) × (log' ≡ log)
JudgesAll t file (c ∷ cs) s log s' log' =
    (mid : SoFar) × (between : Option (List LinkEvent)) × JudgesOne t file c s log mid between × JudgesAll t file cs mid between s' log'
