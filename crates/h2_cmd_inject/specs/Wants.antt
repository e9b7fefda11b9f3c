-- Words that are fixed: what is wanted, and why the RFC allows what was found.
use Rattle.std.specs.Prelude.{ℕ, ◌-◌, ◌==◌, ◌||◌, ◌&&◌, List, [], codes, drop, slice_get, if◌then◌else◌, Option, Some, None}
use Rattle.std.specs.Borrow.{Bor}
use Rattle.h2_cmd_dialogue.specs.declared.findings.Found.{Found}
use Rattle.h2_cmd_dialogue.specs.declared.findings.Found.TheVariants as found
use Rattle.h2_cmd_dialogue.specs.declared.play.End.{End}
use Rattle.h2_cmd_dialogue.specs.declared.play.End.TheVariants as end
use Rattle.h2_cmd_dialogue.specs.declared.verdict.Taken.{Taken}
use Rattle.h2_cmd_dialogue.specs.declared.verdict.Taken.TheVariants as taken
use Rattle.h2_cmd_dialogue.specs.declared.verdict.Wanted.{Wanted}
use Rattle.h2_cmd_dialogue.specs.declared.verdict.Wanted.TheVariants as wanted

-- the text of a line, without its mark
abbrev pub marked_text : Option (Bor (List ℕ)) → List ℕ
marked_text None = []
marked_text (Some text) = drop 3 text.now

abbrev pub text_at : List (Bor (List ℕ)) → (line : ℕ) → List ℕ
text_at lines line = marked_text (slice_get lines (line - 1))

-- what is wanted where no line says it
abbrev pub unsaid_end : End → List ℕ
unsaid_end end.Closed = codes "frames of a client, and their end"
unsaid_end end.Silent = codes "frames of a client, and their end"
unsaid_end (end.ByServer code) = codes "a client that the server goes on with"
unsaid_end end.NoFrames = codes "frames of a client, and their end"
unsaid_end end.TooMuch = codes "frames of a client, and their end"
unsaid_end end.Late = codes "frames of a client, and their end"

abbrev pub unsaid : Found → List ℕ
unsaid (found.Reaction line t) = codes "frames of a client, and their end"
unsaid (found.Sends is_sent) = codes "frames of a client, and their end"
unsaid found.Missing = codes "frames of a client, and their end"
unsaid (found.Limit fault) = codes "the limits of SETTINGS"
unsaid (found.Late count) = codes "the limits of SETTINGS"
unsaid (found.Ended e) = unsaid_end e
unsaid found.Lingers = codes "the connection ends after GOAWAY with an error (5.4.1)"

-- why the RFC allows a reaction that a line does not say, if it does
abbrev pub why_connection : Taken → List ℕ
why_connection taken.GoesOn = []
why_connection (taken.Connection code) = codes ": another code, 5.4"
why_connection (taken.Stream stream code) = []
why_connection taken.Closed = codes ": no GOAWAY; 5.4.1 has SHOULD"
why_connection taken.Silent = []

abbrev pub why_stream : (stream : ℕ) → Taken → List ℕ
why_stream stream taken.GoesOn = []
why_stream stream (taken.Connection code) = codes ": a connection error for a stream error, 5.4.2"
why_stream stream (taken.Stream reset code) = if (stream == reset) && ((code == 1) || (code == 2)) then codes ": a generic code, 5.4" else []
why_stream stream taken.Closed = codes ": no GOAWAY; 5.4.1 has SHOULD"
why_stream stream taken.Silent = []

abbrev pub why_allowed : Wanted → Taken → List ℕ
why_allowed wanted.GoesOn t = []
why_allowed (wanted.Connection code) t = why_connection t
why_allowed (wanted.Stream stream code) t = why_stream stream t

-- that a client goes on: where an error of a stream is wanted, it may end by itself
abbrev pub going_on_at : End → List ℕ
going_on_at end.Closed = codes "goes on"
going_on_at end.Silent = codes "goes on, and the connection stays open"
going_on_at (end.ByServer code) = codes "goes on"
going_on_at end.NoFrames = codes "goes on"
going_on_at end.TooMuch = codes "goes on"
going_on_at end.Late = codes "goes on"

abbrev pub going_on : Wanted → End → List ℕ
going_on wanted.GoesOn e = codes "goes on"
going_on (wanted.Connection code) e = codes "goes on"
going_on (wanted.Stream stream code) e = going_on_at e
