-- What a command over memory gives to a caller, and how the call ended.
use Rattle.std.specs.Prelude.{◌≡◌, ◌⊎◌, ◌+◌, ◌<◌, ◌==◌, ◌||◌, ℕ, Bool, true, false, if◌then◌else◌, List, [], ◌∷◌, ◌++◌, length, bytes_eq, Option, Some, None}
use Rattle.std.specs.Option.{option_and_then}
use Rattle.std.specs.Str.{IsUtf8}
use Rattle.h2_spec.specs.Texts.Script.{lines_of}
use Rattle.h2_spec.specs.declared.connection.Config.{Config}
use Rattle.h2_cmd_args.specs.Grammar.{BatchAsked, BookAsked, FormAsked, asked_of, batch, check, debug, explain}
use Rattle.h2_cmd_book_file.specs.Entries.{Directory}
use Rattle.h2_cmd_cases.specs.Shell.{with_word}
use Rattle.h2_cmd_batch.specs.Printed.{OrCutShort, Printed, failed, places_within, printed_within}
use Rattle.h2_cmd_batch.specs.declared.fault.BenchFault.TheVariants as bench
use Rattle.h2_cmd_run.specs.CheckProgram.{IsCheck}
use Rattle.h2_cmd_run.specs.ExplainProgram.{IsExplained, form_of}
use Rattle.h2_cmd_run.specs.Memory.{IsDebugged, unserved}
use Rattle.h2_cmd_run.specs.ProgramEnd.{IsRefusal, is_serve}
use Rattle.h2_embed.specs.declared.fault.RunEnd.{RunEnd}
use Rattle.h2_embed.specs.declared.fault.RunFault.{RunFault}
use Rattle.h2_embed.specs.declared.fault.RunFault.TheVariants.{NoConnection, NoMemory, NoRoom, NoText}

-- ---- the words and the file

-- words with lines after them, each of which has to be UTF-8
abbrev pub words_from : List (List ℕ) → List (List ℕ) → Option (List (List ℕ))
words_from words [] = Some words
words_from words (line ∷ lines) = option_and_then (λ more. words_from more lines) (with_word words line)

-- the words that a text says, a line for each
abbrev pub words_said : List ℕ → Option (List (List ℕ))
words_said text = words_from [] (lines_of text)

-- the one file that a command can read
abbrev pub one_file : List ℕ → List ℕ → Directory
one_file name file path = if bytes_eq name path then Some file else None

-- ---- what is printed

-- what a command prints is what its definition says
abbrev pub RunsAs : List (List ℕ) → Directory → List ℕ → Printed → Type 0
RunsAs words files input t =
    ((asked : BatchAsked) → asked_of words ≡ Some (batch asked) → OrCutShort (places_within files asked input) (printed_within files asked input) t)
    × ((config : Config) → (book : BookAsked) → asked_of words ≡ Some (debug config book) → IsDebugged files config book input t)
    × ((config : Config) → (view : FormAsked) → (raw : Bool) → (file : List ℕ) → (book : BookAsked) → asked_of words ≡ Some (explain config view raw file book) → IsExplained (form_of view) raw files config file book (Some input) false t)
    × ((config : Config) → (book : BookAsked) → (in_place : Bool) → (names : List (List ℕ)) → asked_of words ≡ Some (check config book false in_place [] names) → IsCheck files config book names t)
    × (is_serve (asked_of words) ≡ true → (t ≡ unserved) ⊎ (t ≡ failed bench.NoMemory))
    × (asked_of words ≡ None → IsRefusal t)

abbrev pub RunsSaid : Option (List (List ℕ)) → Directory → List ℕ → Printed → Type 0
RunsSaid None files input t = ⊥
RunsSaid (Some words) files input t = RunsAs words files input t

-- whether a status says that something may have been refused
abbrev pub may_refuse : ℕ → Bool
may_refuse status = status == 1 || status == 2

-- nothing is said where nothing was refused
abbrev pub IsSentence : ℕ → List ℕ → Type 0
IsSentence status sentence = may_refuse status ≡ false → sentence ≡ []

-- ---- how a call ended

abbrev pub number : RunFault → ℕ
number NoMemory = 1
number NoRoom = 2
number NoConnection = 3
number NoText = 22

-- the end of a call that carried out no command
abbrev pub refused : RunFault → RunEnd
refused fault = record { fault = number fault; status = 0; printed = 0; sentence = 0 }

-- the end of a call that carried out one
abbrev pub carried_out : (fault : ℕ) → Printed → (sentence : List ℕ) → RunEnd
carried_out fault t sentence = record { fault = fault; status = t.status; printed = length t.text; sentence = length sentence }

-- the end of a call of a connection that stays, where that many octets were printed
abbrev pub given : (fault count : ℕ) → RunEnd
given fault count = record { fault = fault; status = 0; printed = count; sentence = 0 }

-- a text was put at the front of a place with that much space; or nothing, where it has no space
abbrev pub PutsText : List ℕ → (room : ℕ) → (put : List ℕ) → RunEnd → Type 0
PutsText text room put end =
    ((put ≡ text) × (end ≡ given 0 (length text)))
    ⊎ ((put ≡ []) × (room < length text) × (end ≡ given (number NoRoom) (length text)))

-- why no command was carried out
abbrev pub IsRefusedFor : List ℕ → List ℕ → RunFault → Type 0
IsRefusedFor lines name NoMemory = Unit {0}
IsRefusedFor lines name NoRoom = ⊥
IsRefusedFor lines name NoConnection = ⊥
IsRefusedFor lines name NoText = (words_said lines ≡ None) ⊎ ¬ IsUtf8 name

-- what was put at the front of a place with that much space, and the end that was reported: the text and the sentence; or
-- nothing, where they have no space
abbrev pub Puts : Printed → (sentence : List ℕ) → (room : ℕ) → (put : List ℕ) → RunEnd → Type 0
Puts t sentence room put end =
    ((put ≡ t.text ++ sentence) × (end ≡ carried_out 0 t sentence))
    ⊎ ((put ≡ []) × (room < length t.text + length sentence) × (end ≡ carried_out (number NoRoom) t sentence))

-- the command of these words was carried out over the file and the input, and what it printed was put; or nothing was
-- carried out, and why
abbrev pub Gives : (lines name file input : List ℕ) → (room : ℕ) → (put : List ℕ) → RunEnd → Type 0
Gives lines name file input room put end =
    ((t : Printed) × (sentence : List ℕ) × RunsSaid (words_said lines) (one_file name file) input t × IsSentence t.status sentence × Puts t sentence room put end)
    ⊎ ((fault : RunFault) × IsRefusedFor lines name fault × (put ≡ []) × (end ≡ refused fault))
