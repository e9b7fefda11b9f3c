-- The words of a command line: the commands as clap reads them, and what words ask for.
use Rattle.std.specs.Prelude.{◌&&◌, ◌||◌, ◌^◌, ℕ, Bool, true, false, List, [], ◌∷◌, Option, Some, None, codes, drop, length, nat_eq, nat_lt, if◌then◌else◌, not, unwrap_or, is_some, option_and_then, option_map}
use Rattle.std.specs.List.{list_all, list_any}
use Rattle.std.specs.Option.{option_map_or}
use Rattle.std.specs.Str.{bytes_eq}
use Rattle.std.specs.Str.Parse.{digits_value, without_leading_plus}
use Rattle.std.specs.Char.{digit_value}
use Rattle.h2_spec.specs.declared.connection.Config.{Config}
use Rattle.clap.specs.Words.{App, Kinds, Row, Rule, Text, all_of, fault_of, first_of, new_app, new_rule, one_of, subcommand_of, with_rule, with_subcommand}
use Rattle.clap.specs.declared.builder.ArgAction.TheVariants.{Append, Set, SetTrue}
use Rattle.clap.specs.declared.builder.ValueParser.TheVariants as parser

-- ---- the commands

-- the most streams, any number of 32 bits
abbrev pub streams_rule : Rule
streams_rule = record (new_rule (codes "streams")) { long = Some (codes "streams"); action = Some Set; parser = Some (parser.Unsigned 0 4294967295) }

-- the credit, any number of 32 bits
abbrev pub credit_rule : Rule
credit_rule = record (new_rule (codes "credit")) { long = Some (codes "credit"); action = Some Set; parser = Some (parser.Unsigned 0 4294967295) }

-- the server's own settings, any numbers of 32 bits
abbrev pub table_rule : Rule
table_rule = record (new_rule (codes "table")) { long = Some (codes "table"); action = Some Set; parser = Some (parser.Unsigned 0 4294967295) }

abbrev pub window_rule : Rule
window_rule = record (new_rule (codes "window")) { long = Some (codes "window"); action = Some Set; parser = Some (parser.Unsigned 0 4294967295) }

abbrev pub frame_rule : Rule
frame_rule = record (new_rule (codes "frame")) { long = Some (codes "frame"); action = Some Set; parser = Some (parser.Unsigned 0 4294967295) }

-- how many octets a piece of `play` has, 0 to 65536; 0 for 65536
abbrev pub cut_rule : Rule
cut_rule = record (new_rule (codes "cut")) { long = Some (codes "cut"); action = Some Set; parser = Some (parser.Unsigned 0 65536) }

-- whether each item is reported
abbrev pub each_rule : Rule
each_rule = record (new_rule (codes "each")) { long = Some (codes "each"); action = Some SetTrue }

-- whether a connection is explained as JSON
abbrev pub json_rule : Rule
json_rule = record (new_rule (codes "json")) { long = Some (codes "json"); action = Some SetTrue }

-- whether a text has colours
abbrev pub color_rule : Rule
color_rule = record (new_rule (codes "color")) { long = Some (codes "color"); action = Some SetTrue }

-- whether the status and a last line say what the client broke
abbrev pub strict_rule : Rule
strict_rule = record (new_rule (codes "strict")) { long = Some (codes "strict"); action = Some SetTrue }

-- whether the connections that are served are explained
abbrev pub explain_rule : Rule
explain_rule = record (new_rule (codes "explain")) { long = Some (codes "explain"); action = Some SetTrue }

-- whether the time is written before each line
abbrev pub times_rule : Rule
times_rule = record (new_rule (codes "times")) { long = Some (codes "times"); action = Some SetTrue }

-- the directory of records, one text
abbrev pub record_rule : Rule
record_rule = record (new_rule (codes "record")) { long = Some (codes "record"); action = Some Set }

-- whether long texts are written whole
abbrev pub full_rule : Rule
full_rule = record (new_rule (codes "full")) { long = Some (codes "full"); action = Some SetTrue }

-- whether fields, and what changed, are left out
abbrev pub brief_rule : Rule
brief_rule = record (new_rule (codes "brief")) { long = Some (codes "brief"); action = Some SetTrue }

-- whether only items with an error, a reason to ignore them or a warning are shown
abbrev pub errors_rule : Rule
errors_rule = record (new_rule (codes "errors")) { long = Some (codes "errors"); action = Some SetTrue }

-- the stream whose items alone are shown, 0 to 2^31 - 1
abbrev pub stream_rule : Rule
stream_rule = record (new_rule (codes "stream")) { long = Some (codes "stream"); action = Some Set; parser = Some (parser.Unsigned 0 2147483647) }

-- the answers, any number of them
abbrev pub answer_rule : Rule
answer_rule = record (new_rule (codes "ANSWER")) { action = Some Append }

-- the file of a book, one text
abbrev pub book_rule : Rule
book_rule = record (new_rule (codes "book")) { long = Some (codes "book"); action = Some Set }

-- whether the reason of a refused entry is written
abbrev pub why_rule : Rule
why_rule = record (new_rule (codes "why")) { long = Some (codes "why"); action = Some SetTrue }

-- whether faults are left without a sentence
abbrev pub quiet_rule : Rule
quiet_rule = record (new_rule (codes "quiet")) { long = Some (codes "quiet"); action = Some SetTrue }

-- the file that is the input, one text
abbrev pub in_rule : Rule
in_rule = record (new_rule (codes "in")) { long = Some (codes "in"); action = Some Set }

-- whether the input has the octets themselves, not their hex
abbrev pub raw_rule : Rule
raw_rule = record (new_rule (codes "raw")) { long = Some (codes "raw"); action = Some SetTrue }

-- what shows that a session waits for a command, one text
abbrev pub prompt_rule : Rule
prompt_rule = record (new_rule (codes "prompt")) { long = Some (codes "prompt"); action = Some Set }

-- a command with the rules of a book
abbrev pub with_book : App → App
with_book app = with_rule (with_rule (with_rule app book_rule) why_rule) quiet_rule

-- a command with the rules of an input that has octets
abbrev pub with_octets : App → App
with_octets app = with_rule (with_rule app in_rule) raw_rule

-- a command without a book, whose input is a text
abbrev pub with_text : App → App
with_text app = with_rule (with_rule app in_rule) quiet_rule

-- a command with the server's own settings
abbrev pub with_settings : App → App
with_settings app = with_rule (with_rule (with_rule app table_rule) window_rule) frame_rule

-- a command with the limits and the settings of a connection
abbrev pub with_limits : App → App
with_limits app = with_settings (with_rule (with_rule app streams_rule) credit_rule)

abbrev pub play_app : App
play_app = with_rule (with_octets (with_book (with_rule (with_rule (with_limits (new_app (codes "play"))) cut_rule) each_rule))) answer_rule

abbrev pub asm_app : App
asm_app = with_text (new_app (codes "asm"))

abbrev pub dis_app : App
dis_app = with_rule (with_octets (new_app (codes "dis"))) quiet_rule

-- LIMIT of `table`, 0 to 65536
abbrev pub limit_rule : Rule
limit_rule = record (new_rule (codes "LIMIT")) { required = true; action = Some Set; parser = Some (parser.Unsigned 0 65536) }

abbrev pub table_app : App
table_app = with_rule (with_text (new_app (codes "table"))) limit_rule

abbrev pub debug_app : App
debug_app = with_rule (with_rule (with_octets (with_book (with_limits (new_app (codes "debug"))))) prompt_rule) answer_rule

-- PORT of `serve`, 1 to 65535
abbrev pub port_rule : Rule
port_rule = record (new_rule (codes "PORT")) { required = true; action = Some Set; parser = Some (parser.Unsigned 1 65535) }

-- its COUNT, any number of 32 bits
abbrev pub count_rule : Rule
count_rule = record (new_rule (codes "COUNT")) { required = true; action = Some Set; parser = Some (parser.Unsigned 0 4294967295) }

-- a command with the rules of how an explanation is written
abbrev pub with_view : App → App
with_view app = with_rule (with_rule (with_rule (with_rule (with_rule (with_rule (with_rule app json_rule) color_rule) strict_rule) full_rule) brief_rule) errors_rule) stream_rule

-- the file of the dialogue that the first connection is given, one text
abbrev pub inject_rule : Rule
inject_rule = record (new_rule (codes "inject")) { long = Some (codes "inject"); action = Some Set }

-- which dialogue of it
abbrev pub dialogue_rule : Rule
dialogue_rule = record (new_rule (codes "dialogue")) { long = Some (codes "dialogue"); action = Some Set; parser = Some (parser.Unsigned 0 4294967295) }

-- a command with the rules of a dialogue
abbrev pub with_script : App → App
with_script app = with_rule (with_rule app inject_rule) dialogue_rule

abbrev pub serve_app : App
serve_app = with_rule (with_rule (with_rule (with_book (with_view (with_script (with_rule (with_rule (with_rule (with_limits (new_app (codes "serve"))) explain_rule) times_rule) record_rule)))) port_rule) count_rule) answer_rule

abbrev pub explain_app : App
explain_app = with_rule (with_octets (with_book (with_view (with_limits (new_app (codes "explain")))))) answer_rule

-- FILE of `check`, one or more
abbrev pub files_rule : Rule
files_rule = record (new_rule (codes "FILE")) { required = true; action = Some Append }

-- whether cases are written anew, and whether into their files
abbrev pub bless_rule : Rule
bless_rule = record (new_rule (codes "bless")) { long = Some (codes "bless"); action = Some SetTrue }

abbrev pub in_place_rule : Rule
in_place_rule = record (new_rule (codes "in-place")) { long = Some (codes "in-place"); action = Some SetTrue }

-- the file that takes the results as JUnit XML, one text
abbrev pub junit_rule : Rule
junit_rule = record (new_rule (codes "junit")) { long = Some (codes "junit"); action = Some Set }

-- the port of the server that is judged, 0 to 65535
abbrev pub against_rule : Rule
against_rule = record (new_rule (codes "against")) { long = Some (codes "against"); action = Some Set; parser = Some (parser.Unsigned 0 65535) }

-- how many milliseconds without an octet end a wait, 0 to 1000
abbrev pub wait_rule : Rule
wait_rule = record (new_rule (codes "wait")) { long = Some (codes "wait"); action = Some Set; parser = Some (parser.Unsigned 0 1000) }

-- a method and the path that its requests go to, one text
abbrev pub path_rule : Rule
path_rule = record (new_rule (codes "path")) { long = Some (codes "path"); action = Some Set }

-- what requests have instead of localhost, one text
abbrev pub authority_rule : Rule
authority_rule = record (new_rule (codes "authority")) { long = Some (codes "authority"); action = Some Set }

-- whether a server is judged by octets that were recorded
abbrev pub judge_rule : Rule
judge_rule = record (new_rule (codes "judge")) { long = Some (codes "judge"); action = Some SetTrue }

-- a command with the rules of servers that are judged
abbrev pub with_judge : App → App
with_judge app = with_rule (with_rule (with_rule (with_rule (with_rule app against_rule) wait_rule) path_rule) authority_rule) judge_rule

abbrev pub check_app : App
check_app = with_rule (with_rule (with_judge (with_rule (with_rule (with_rule (with_rule (with_limits (new_app (codes "check"))) book_rule) bless_rule) in_place_rule) junit_rule)) quiet_rule) files_rule

abbrev pub top_app : App
top_app = record (new_app (codes "h2_bench")) { top = record (new_app (codes "h2_bench")).top { subcommand_required = true } }

-- a command with those that read their whole input and don't explain it
unfoldable pub with_offline : App → App
with_offline app = with_subcommand (with_subcommand (with_subcommand (with_subcommand app play_app.top) asm_app.top) dis_app.top) table_app.top

unfoldable pub bench_app : App
bench_app =
    with_subcommand (with_subcommand (with_subcommand (with_subcommand (with_offline top_app) debug_app.top) serve_app.top) explain_app.top) check_app.top

-- ---- what words ask for

-- a book of answers: the path of its file, empty where there is none; whether the reason of a refused entry is
-- written, as it is unless the words ask for quiet; the words of further answers
pub record BookAsked : Type 0 where
  pub file : Text
  pub why : Bool
  pub answers : List Text

-- a command that reads its whole input and then answers it; of those that take octets, whether the input has them as they are,
-- and not their hex; of those without a book, whether the reason is written where the input is refused
pub data BatchAsked : Type 0 where
  play : (config : Config) → (cut : ℕ) → (each : Bool) → (raw : Bool) → (book : BookAsked) → BatchAsked
  asm : (why : Bool) → BatchAsked
  dis : (raw : Bool) → (why : Bool) → BatchAsked
  table : (limit : ℕ) → (why : Bool) → BatchAsked

-- how an explanation is written: whether as JSON, with colours, with what `--strict` says, with long texts whole, without
-- fields and changes, only of items that have an error, a reason to ignore them or a warning, only of a stream
pub record FormAsked : Type 0 where
  pub json : Bool
  pub color : Bool
  pub strict : Bool
  pub full : Bool
  pub brief : Bool
  pub errors : Bool
  pub stream : Option ℕ

-- what is shown of connections that are served: whether they are explained, and how; whether with the time of each line;
-- the directory where they are recorded, empty where they are not; the file of the dialogue that the first one is given, empty
-- where it is given none, and the number of that dialogue
pub record ReportAsked : Type 0 where
  pub explain : Bool
  pub view : FormAsked
  pub times : Bool
  pub record_to : Text
  pub inject : Text
  pub dialogue : ℕ

pub data Asked : Type 0 where
  batch : BatchAsked → Asked
  debug : (config : Config) → (book : BookAsked) → Asked
  serve : (config : Config) → (port : ℕ) → (count : ℕ) → (watched : ReportAsked) → (book : BookAsked) → Asked
  explain : (config : Config) → (view : FormAsked) → (raw : Bool) → (file : Text) → (book : BookAsked) → Asked
  check : (config : Config) → (book : BookAsked) → (bless : Bool) → (in_place : Bool) → (junit : Text) → (files : List Text) → Asked
  against : (config : Config) → (book : BookAsked) → (port wait : ℕ) → (path authority : Text) → (judge : Bool) → (junit : Text) → (files : List Text) → Asked

-- the number that a text spells in decimal digits, if it is below 2 ^ 32
abbrev pub number_of : Text → Option ℕ
number_of text =
    let ds = without_leading_plus text in
    if nat_lt 0 (length ds) && list_all (λ d. nat_lt (digit_value d) 10) ds && nat_lt (digits_value 10 ds) (2 ^ 32) then Some (digits_value 10 ds) else None

-- the number that an option or a positional was given, if it was
abbrev pub number_given : Text → List Row → Option ℕ
number_given id rows = option_and_then number_of (one_of id rows)

-- that, or another
abbrev pub number_at : Text → ℕ → List Row → ℕ
number_at id default rows = unwrap_or (number_given id rows) default

-- whether a flag was given
abbrev pub is_set : Text → List Row → Bool
is_set id rows = option_map_or (λ t. bytes_eq t (codes "true")) (first_of id rows) false

-- the text that an option was given, or none
abbrev pub text_at : Text → List Row → Text
text_at id rows = unwrap_or (first_of id rows) []

-- the values of a positional that takes any number of them
abbrev pub texts_at : Text → List Row → List Text
texts_at id rows = unwrap_or (all_of id rows) []

-- the limits, 100 streams and 32768 octets where none are given, and the settings, the first ones where none are given
abbrev pub config_at : List Row → Config
config_at rows = record {
  streams = number_at (codes "streams") 100 rows;
  credit = number_at (codes "credit") 32768 rows;
  table = number_at (codes "table") 4096 rows;
  window = number_at (codes "window") 65535 rows;
  frame = number_at (codes "frame") 16384 rows;
}

-- whether the input has the octets themselves
abbrev pub raw_at : List Row → Bool
raw_at rows = is_set (codes "raw") rows

-- whether reasons are written
abbrev pub why_at : List Row → Bool
why_at rows = not (is_set (codes "quiet") rows)

abbrev pub book_at : List Row → BookAsked
book_at rows = record { file = text_at (codes "book") rows; why = why_at rows; answers = texts_at (codes "ANSWER") rows }

-- whether a word is an answer: it has a `|`
abbrev pub is_answer : Text → Bool
is_answer word = list_any (λ c. nat_eq c 124) word

-- the path that a word is; that of standard input, `-`, is empty
abbrev pub path_in : Text → Text
path_in word = if bytes_eq word (codes "-") then [] else word

-- the file among the words of `explain`: the first one, where it is no answer
abbrev pub file_among : List Text → Text
file_among [] = []
file_among (word ∷ words) = if is_answer word then [] else path_in word

-- how many files there are among them
abbrev pub files_among : List Text → ℕ
files_among [] = 0
files_among (word ∷ words) = if is_answer word then 0 else 1

-- the answers among them: all but the file
abbrev pub answers_among : List Text → List Text
answers_among words = drop (files_among words) words

-- the book of `explain`
abbrev pub explain_book_at : List Row → BookAsked
explain_book_at rows = record (book_at rows) { answers = answers_among (texts_at (codes "ANSWER") rows) }

-- the book of `check`: a file alone
abbrev pub file_book_at : List Row → BookAsked
file_book_at rows = record { file = text_at (codes "book") rows; why = why_at rows; answers = [] }

-- how the explanation is written
abbrev pub form_at : List Row → FormAsked
form_at rows = record {
  json = is_set (codes "json") rows;
  color = is_set (codes "color") rows;
  strict = is_set (codes "strict") rows;
  full = is_set (codes "full") rows;
  brief = is_set (codes "brief") rows;
  errors = is_set (codes "errors") rows;
  stream = number_given (codes "stream") rows;
}

-- whether some items, or less of each, are asked for
abbrev pub is_part_at : List Row → Bool
is_part_at rows = is_set (codes "brief") rows || (is_set (codes "errors") rows || is_some (number_given (codes "stream") rows))

-- what is shown of the connections: they are explained where that is asked for, or a part of it, JSON, a verdict, times or
-- a record
abbrev pub report_at : List Row → ReportAsked
report_at rows = record {
  explain = is_set (codes "explain") rows || (is_part_at rows || (is_set (codes "json") rows || (is_set (codes "strict") rows || (is_set (codes "times") rows || nat_lt 0 (length (text_at (codes "record") rows))))));
  view = form_at rows;
  times = is_set (codes "times") rows;
  record_to = text_at (codes "record") rows;
  inject = text_at (codes "inject") rows;
  dialogue = number_at (codes "dialogue") 1 rows;
}

-- whether a server is to be judged: over a connection, or by octets that were recorded
abbrev pub is_against : List Row → Bool
is_against rows = is_some (number_given (codes "against") rows) || is_set (codes "judge") rows

-- how it is judged
abbrev pub against_asked : List Row → Asked
against_asked rows = against (config_at rows) (file_book_at rows) (number_at (codes "against") 0 rows) (number_at (codes "wait") 15 rows)
    (text_at (codes "path") rows) (text_at (codes "authority") rows) (is_set (codes "judge") rows) (text_at (codes "junit") rows) (texts_at (codes "FILE") rows)

-- how cases are checked
abbrev pub check_asked : List Row → Asked
check_asked rows = check (config_at rows) (file_book_at rows) (is_set (codes "bless") rows) (is_set (codes "in-place") rows) (text_at (codes "junit") rows) (texts_at (codes "FILE") rows)

-- what `check` is to do
abbrev pub cases_asked : List Row → Asked
cases_asked rows = if is_against rows then against_asked rows else check_asked rows

abbrev pub asked_by : Text → List Row → Option Asked
asked_by name rows =
    if bytes_eq name (codes "play") then Some (batch (play (config_at rows) (number_at (codes "cut") 0 rows) (is_set (codes "each") rows) (raw_at rows) (book_at rows)))
    else if bytes_eq name (codes "asm") then Some (batch (asm (why_at rows)))
    else if bytes_eq name (codes "dis") then Some (batch (dis (raw_at rows) (why_at rows)))
    else if bytes_eq name (codes "table") then Some (batch (table (number_at (codes "LIMIT") 0 rows) (why_at rows)))
    else if bytes_eq name (codes "debug") then Some (debug (config_at rows) (book_at rows))
    else (if bytes_eq name (codes "serve") then Some (serve (config_at rows) (number_at (codes "PORT") 0 rows) (number_at (codes "COUNT") 0 rows) (report_at rows) (book_at rows))
    else (if bytes_eq name (codes "explain") then Some (explain (config_at rows) (form_at rows) (raw_at rows) (file_among (texts_at (codes "ANSWER") rows)) (explain_book_at rows))
    else (if bytes_eq name (codes "check") then Some (cases_asked rows) else None)))

-- ---- what words say of devices

-- the path of the input's file, empty for standard input; whether it has the octets themselves; whether faults are left
-- without a sentence; what shows that a session waits
pub record DevicesAsked : Type 0 where
  pub file : Text
  pub raw : Bool
  pub quiet : Bool
  pub prompt : Text

abbrev pub devices_at : List Row → DevicesAsked
devices_at rows = record {
  file = path_in (text_at (codes "in") rows);
  raw = raw_at rows;
  quiet = is_set (codes "quiet") rows;
  prompt = text_at (codes "prompt") rows;
}

-- what a command's name and rows say of devices, if there are any
abbrev pub devices_found : Option (Text × List Row) → Option DevicesAsked
devices_found entered = option_map (λ p. devices_at p.1) entered

-- what words say of devices, if they name a command
abbrev pub devices_of : List Text → Option DevicesAsked
devices_of words = devices_found (subcommand_of bench_app words)

-- what is asked, if no kind of error comes
abbrev pub unless_refused : Kinds → Option Asked → Option Asked
unless_refused [] asked = asked
unless_refused (kind ∷ kinds) asked = None

abbrev pub asked_at : Option (Text × List Row) → Option Asked
asked_at entered = option_and_then (λ p. asked_by p.0 p.1) entered

-- what words ask for, if clap takes them
unfoldable pub asked_of : List Text → Option Asked
asked_of words = unless_refused (fault_of bench_app words) (asked_at (subcommand_of bench_app words))
