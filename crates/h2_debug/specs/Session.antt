-- What `debug` prints for an input, and its exit status.
use Rattle.std.specs.Prelude.{◌≡◌, ◌⊎◌, ℕ, ◌++◌, Bool, true, false, nat_le, if◌then◌else◌, List, [], ◌∷◌, length, take, Option, Some, None}
use Rattle.std.specs.Io.KnownBytes.{Appends}
use Rattle.h2_spec.specs.State.{is_allowed}
use Rattle.h2_spec.specs.declared.connection.Config.{Config}
use Rattle.h2_spec.specs.Requests.Answer.{Entry}
use Rattle.h2_debug.specs.Debugging.{Debugging}
use Rattle.h2_debug.specs.Commands.{Command, command_of}
use Rattle.h2_debug.specs.Loaded.{loaded}
use Rattle.h2_io.specs.HexText.{octets_spelled}
use Rattle.h2_debug.specs.Lines.{ended_lines, lines_of}
use Rattle.h2_debug.specs.Reading.{most}
use Rattle.h2_debug.specs.Replies.{Obeys, fault_line}

-- a text that is printed, and the exit status
pub record Printed : Type 0 where
  pub text : List ℕ
  pub status : ℕ

-- the line of a fault that ends the session
abbrev pub failed : ℕ → Printed
failed fault = record { text = fault_line fault; status = 1 }

-- the end of the input, or of what can be read of it
abbrev pub closed : Bool → List ℕ → Printed
closed true text = record { text = text; status = 0 }
closed false text = record { text = text ++ fault_line 22; status = 1 }

-- the answers to lines, one after another
abbrev pub RespondsWith : Debugging → List (List ℕ) → List ℕ → Type 0
RespondsWith d [] text = text ≡ []
RespondsWith d (line ∷ lines) text = (reply : List ℕ) × (after : Debugging) × (rest : List ℕ) × Obeys d (command_of line) reply after × RespondsWith after lines rest × (text ≡ reply ++ rest)

-- all commands are answered; then the input ends, or can't be read further
abbrev pub IsAnswered : Debugging → List (List ℕ) → Bool → Printed → Type 0
IsAnswered d lines whole printed = (text : List ℕ) × RespondsWith d lines text × (printed ≡ closed whole text)

-- all commands are answered where the limits are allowed
abbrev pub IsAllowed : Bool → List Entry → Config → List ℕ → List (List ℕ) → Bool → Printed → Type 0
IsAllowed true book config octets lines whole printed = IsAnswered (loaded book config octets) lines whole printed
IsAllowed false book config octets lines whole printed = printed ≡ failed 16

-- the octets of the first line are loaded
abbrev pub IsLoaded : List Entry → Config → Option (List ℕ) → List (List ℕ) → Bool → Printed → Type 0
IsLoaded book config None lines whole printed = printed ≡ failed 25
IsLoaded book config (Some octets) lines whole printed = IsAllowed (is_allowed config) book config octets lines whole printed

-- the first line is hex, the others are commands; an input without a line is one whose first line is empty
abbrev pub IsBegun : List Entry → Config → List (List ℕ) → Bool → Printed → Type 0
IsBegun book config [] true printed = IsLoaded book config (octets_spelled []) [] true printed
IsBegun book config [] false printed = printed ≡ failed 22
IsBegun book config (line ∷ lines) whole printed = IsLoaded book config (octets_spelled line) lines whole printed

-- the lines that are handled, and whether they are all: those of the input where it has at most that many octets, else
-- those that end within them; where a read failed, those that end within what was read
abbrev pub IsGiven : ℕ → List ℕ → Bool → Option (List ℕ) → List (List ℕ) → Bool → Type 0
IsGiven limit octets false rest lines whole =
    (whole ≡ nat_le (length octets) limit) × (lines ≡ (if nat_le (length octets) limit then lines_of octets else ended_lines (take limit octets)))
IsGiven limit octets true rest lines whole =
    (read : List ℕ) × (left : List ℕ) × (rest ≡ Some left) × (octets ≡ read ++ left) × (lines ≡ ended_lines read) × (whole ≡ false)

-- the answers to what is given of an input
abbrev pub IsFollowed : Debugging → ℕ → List ℕ → Bool → Option (List ℕ) → Printed → Type 0
IsFollowed d limit octets failed rest printed = (lines : List (List ℕ)) × (whole : Bool) × IsGiven limit octets failed rest lines whole × IsAnswered d lines whole printed

-- a session over an input; `failed` and `rest` are of the input after it: whether its last read failed, and what it has
-- left. Where memory for the first line is refused, that fault ends it; so where a read failed, no session ends so.
abbrev pub IsSession : List Entry → Config → List ℕ → Bool → Option (List ℕ) → Printed → Type 0
IsSession book config octets input_failed rest printed = ((printed ≡ failed 0) × (input_failed ≡ false))
    ⊎ ((lines : List (List ℕ)) × (whole : Bool) × IsGiven most octets input_failed rest lines whole × IsBegun book config lines whole printed)

-- a session over octets that are not of the input: all lines of the input are commands
abbrev pub IsSessionOver : (peer : List ℕ) → List Entry → Config → List ℕ → Bool → Option (List ℕ) → Printed → Type 0
IsSessionOver peer book config octets input_failed rest printed = ((printed ≡ failed 0) × (input_failed ≡ false))
    ⊎ ((lines : List (List ℕ)) × (whole : Bool) × IsGiven most octets input_failed rest lines whole × IsLoaded book config (Some peer) lines whole printed)

-- the output gained the text, and the status is its
abbrev pub Prints : Printed → List ℕ → Option (List ℕ) → ℕ → Type 0
Prints printed before after status = (after ≡ Some (before ++ printed.text)) × (status ≡ printed.status)

-- a command was obeyed, and the output gained the reply
abbrev pub AnswersLine : Debugging → Option Command → Debugging → Option (List ℕ) → Option (List ℕ) → Type 0
AnswersLine d command after before now = (reply : List ℕ) × Obeys d command reply after × Appends before now reply
