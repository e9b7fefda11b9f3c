-- What the programs report of their input: a text and an exit status.
use Rattle.std.specs.Prelude.{ℕ, ◌++◌, Bool, true, false, List, [], ◌∷◌, length, codes, nat_lt, if◌then◌else◌, Option, Some, None, Result, Ok, Err}
use Rattle.std.specs.List.{concat}
use Rattle.hex.specs.Hex.{encode_lower}
use Rattle.h2_spec.specs.State.{is_allowed}
use Rattle.h2_spec.specs.declared.connection.Config.{Config}
use Rattle.h2_spec.specs.Requests.Answer.{Entry}
use Rattle.h2_spec.specs.Opening.{opening_octets}
use Rattle.h2_spec.specs.State.{opening}
use Rattle.h2_spec.specs.Trace.{sent_octets, trace}
use Rattle.h2_spec.specs.Texts.View.{View, view}
use Rattle.h2_spec.specs.Texts.Show.{joined, show}
use Rattle.h2_cmd_batch.specs.Books.{book_in}
use Rattle.h2_cmd_book_file.specs.Entries.{Directory}
use Rattle.h2_cmd_args.specs.Grammar.{BatchAsked, play, asm, dis, table}
use Rattle.h2_cmd_batch.specs.Input.{most, octets_of}
use Rattle.h2_cmd_batch.specs.ScriptPrograms.{printed_asm, printed_dis}
use Rattle.h2_cmd_batch.specs.TableProgram.{table_parts, table_text}
pub use Rattle.h2_cmd_play.specs.Places.{item_text, item_texts, places_from, places_run}
pub use Rattle.h2_cmd_batch.specs.Printing.{OrCutShort, Printed, cut_short, done, failed, failed_as, refused}
use Rattle.h2_cmd_batch.specs.declared.fault.BenchFault.TheVariants.{BadConfig, Read, BadHex}

-- the line of the octets sent, and the text of the state
unfoldable pub sent_and_state : List ℕ → View → List ℕ
sent_and_state sent shown = joined (codes "sent " ∷ encode_lower sent ∷ codes "\n" ∷ []) ++ show shown

-- of the whole run of a connection over octets, or of each place in it
abbrev pub printed_run : Bool → List Entry → Config → List ℕ → Printed
printed_run false book config octets =
    let run = trace (opening book config) octets in
    done (sent_and_state (opening_octets config ++ sent_octets run.events) (view run.state))
printed_run true book config octets = done (concat (places_run book config octets))

-- `play` of octets, where the limits are allowed
abbrev pub printed_played : Bool → List Entry → Config → List ℕ → Printed
printed_played each book config octets = if is_allowed config then printed_run each book config octets else failed BadConfig

abbrev pub printed_play : Bool → List Entry → Config → Option (List ℕ) → Printed
printed_play each book config None = failed BadHex
printed_play each book config (Some octets) = printed_played each book config octets

-- the places that are written one after another while they are made: those of a run of which each place is reported
abbrev pub places_played : Bool → List Entry → Config → List ℕ → List (List ℕ)
places_played false book config octets = []
places_played true book config octets = if is_allowed config then places_run book config octets else []

abbrev pub places_play : Bool → List Entry → Config → Option (List ℕ) → List (List ℕ)
places_play each book config None = []
places_play each book config (Some octets) = places_played each book config octets

abbrev pub printed : List Entry → BatchAsked → List ℕ → Printed
printed book (play config cut each raw said) input = printed_play each book config (octets_of raw input)
printed book (asm why) input = printed_asm input
printed book (dis raw why) input = printed_dis (octets_of raw input)
printed book (table limit why) input = done (table_text limit input)

-- the parts of what a command prints that are written while it runs: the places of `play`, the parts of `table`
abbrev pub places : List Entry → BatchAsked → List ℕ → List (List ℕ)
places book (play config cut each raw said) input = places_play each book config (octets_of raw input)
places book (asm why) input = []
places book (dis raw why) input = []
places book (table limit why) input = table_parts limit input

-- an input that is too long is not read
abbrev pub printed_read : List Entry → BatchAsked → List ℕ → Printed
printed_read book asked input = if nat_lt most (length input) then failed Read else printed book asked input

abbrev pub places_read : List Entry → BatchAsked → List ℕ → List (List ℕ)
places_read book asked input = if nat_lt most (length input) then [] else places book asked input

-- the fault of the book is found before anything is read
abbrev pub printed_with : Result (List Entry) ℕ → BatchAsked → List ℕ → Printed
printed_with (Err fault) asked input = refused fault
printed_with (Ok book) asked input = printed_read book asked input

abbrev pub printed_within : Directory → BatchAsked → List ℕ → Printed
printed_within files asked input = printed_with (book_in files asked) asked input

abbrev pub places_with : Result (List Entry) ℕ → BatchAsked → List ℕ → List (List ℕ)
places_with (Err fault) asked input = []
places_with (Ok book) asked input = places_read book asked input

abbrev pub places_within : Directory → BatchAsked → List ℕ → List (List ℕ)
places_within files asked input = places_with (book_in files asked) asked input
