-- A case written anew: what it says of frames that are sent, and of errors, is replaced by what the run of its octets has.
use Rattle.std.specs.Prelude.{ℕ, ◌-◌, nat_lt, Bool, true, false, ◌||◌, ◌&&◌, not, List, [], ◌∷◌, ◌++◌, length, flat_map, codes, if◌then◌else◌, Option, Some, None}
use Rattle.std.specs.List.{list_any}
use Rattle.std.specs.Str.{bytes_eq}
use Rattle.h2_spec.specs.Requests.Answer.{Entry}
use Rattle.h2_spec.specs.Frames.Parse.{parse_all}
use Rattle.h2_spec.specs.Texts.Script.{lines_of}
use Rattle.h2_spec.specs.Trace.{next_event}
use Rattle.h2_spec.specs.Texts.Written.{written}
use Rattle.h2_spec.specs.declared.causes.Cause.{Cause}
use Rattle.h2_spec.specs.declared.connection.Config.{Config}
use Rattle.h2_cmd_check.specs.Cases.{Place, Start, cause_text, first_place, played, sight_at, start_of, unspoken}
use Rattle.h2_cmd_cases.specs.Files.{is_empty_or_comment}
use Rattle.h2_cmd_cases.specs.Frames.{told_lines}
use Rattle.h2_cmd_check.specs.Frames.{is_none, sends, spoken_by}
use Rattle.h2_cmd_check.specs.ItemTexts.{octets_at, octets_or_none}
use Rattle.h2_cmd_cases.specs.Lines as line
use Rattle.h2_cmd_cases.specs.Lines.{CaseLine, line_said}

-- ---- the lines that are written

-- a line as it is
abbrev pub kept_line : List ℕ → List ℕ
kept_line line = line ++ codes "\n"

-- a line that says that a frame is sent; none for the end of a text
abbrev pub sent_line : List ℕ → List ℕ
sent_line [] = []
sent_line (c ∷ cs) = codes ";< " ++ kept_line (c ∷ cs)

-- one for each frame of octets, as `dis` writes it
abbrev pub sent_lines : List ℕ → List ℕ
sent_lines octets = flat_map sent_line (lines_of (written octets))

-- a line that says why the item before is an error
abbrev pub cause_line : List ℕ → List ℕ
cause_line name = codes ";! " ++ kept_line name

-- ---- which lines there are

-- a line says what is sent
abbrev pub says_sent : CaseLine → Bool
says_sent (line.Sent text) = true
says_sent (line.Script text) = false
says_sent (line.Title text) = false
says_sent (line.Unspaced text) = false
says_sent (line.Words text) = false
says_sent (line.Shown text) = false
says_sent (line.Cause text) = false
says_sent (line.Reason text) = false
says_sent (line.Explained text) = false
says_sent (line.Command text) = false

-- a line says what is sent, or why an item is an error
abbrev pub is_renewed : CaseLine → Bool
is_renewed (line.Sent text) = true
is_renewed (line.Cause text) = true
is_renewed (line.Script text) = false
is_renewed (line.Title text) = false
is_renewed (line.Unspaced text) = false
is_renewed (line.Words text) = false
is_renewed (line.Shown text) = false
is_renewed (line.Reason text) = false
is_renewed (line.Explained text) = false
is_renewed (line.Command text) = false

-- the place may be another after a line: it is one of the script, neither empty nor a comment, or a command
abbrev pub may_move : CaseLine → Bool
may_move (line.Script text) = not (is_empty_or_comment text)
may_move (line.Command text) = true
may_move (line.Title text) = false
may_move (line.Unspaced text) = false
may_move (line.Words text) = false
may_move (line.Sent text) = false
may_move (line.Shown text) = false
may_move (line.Cause text) = false
may_move (line.Reason text) = false
may_move (line.Explained text) = false

-- some of these lines are to be renewed
abbrev pub have_renewed : List (List ℕ) → Bool
have_renewed lines = list_any (λ l. is_renewed (line_said l)) lines

-- before the next line that may have octets, or is a command, one says what is sent
abbrev pub more_say : List (List ℕ) → Bool
more_say [] = false
more_say (l ∷ ls) = says_sent (line_said l) || (not (may_move (line_said l)) && more_say ls)

-- ---- a case that has such lines: each is renewed

-- a line that says what is sent stays where it holds, as `dis` writes it
abbrev pub held_line : List ℕ → Option (List ℕ) → List ℕ
held_line text None = codes ";< " ++ kept_line text
held_line text (Some octets) = sent_lines octets

-- any frames, no frame, and a summary are no frame of a script
abbrev pub frame_said : List ℕ → Option (List ℕ)
frame_said text = if bytes_eq text (codes "...") then None else if bytes_eq text (codes "-") then None else octets_at text

abbrev pub held_text : List ℕ → List ℕ → List ℕ
held_text text left = if sends text left then held_line text (frame_said text) else []

abbrev pub held_place : Start → Place → List ℕ → Place
held_place start here text =
    if sends text (unspoken start here) then record { above = here.above; spoken = spoken_by text (unspoken start here) (length (sight_at start here).sent) here.spoken; speaks = true; debugging = here.debugging }
    else here

-- after the last of them up to the next octets, all that is left is written; where nothing is, and no line says so, that
-- nothing is sent
abbrev pub left_text : (speaks : Bool) → List ℕ → List ℕ
left_text speaks left = if is_none left then (if speaks then [] else codes ";< -\n") else told_lines left

abbrev pub left_place : Start → Place → Place
left_place start here = record { above = here.above; spoken = length (sight_at start here).sent; speaks = true; debugging = here.debugging }

-- the rest after a line, unless more of them follow
abbrev pub rest_text : Bool → Start → Place → List ℕ
rest_text true start here = []
rest_text false start here = left_text here.speaks (unspoken start here)

abbrev pub rest_place : Bool → Start → Place → Place
rest_place true start here = here
rest_place false start here = left_place start here

-- a line that says what is sent; `more` says whether another one follows before the next octets
abbrev pub renewed_sent : Start → Place → (more : Bool) → List ℕ → List ℕ
renewed_sent start here more text = held_text text (unspoken start here) ++ rest_text more start (held_place start here text)

abbrev pub renewed_sent_place : Start → Place → (more : Bool) → List ℕ → Place
renewed_sent_place start here more text = rest_place more start (held_place start here text)

-- a line that says why the item before is an error; it stays where that is none, and an earlier one is: no such line holds there
abbrev pub renewed_cause : List ℕ → Option Cause → Option Cause → List ℕ
renewed_cause l first (Some cause) = cause_line (cause_text (Some cause))
renewed_cause l None None = cause_line (cause_text None)
renewed_cause l (Some other) None = kept_line l

-- what was sent is spoken about
abbrev pub told_place : Start → Place → Place
told_place start here = record { above = here.above; spoken = length (sight_at start here).sent; speaks = here.speaks; debugging = here.debugging }

-- what is written for a line, and the place after it; `more` says whether another line says what is sent here
abbrev pub renewed_line : Start → Place → (more : Bool) → List ℕ → CaseLine → List ℕ
renewed_line start here more l (line.Script text) = kept_line l
renewed_line start here more l (line.Title text) = kept_line l
renewed_line start here more l (line.Unspaced text) = kept_line l
renewed_line start here more l (line.Words text) = kept_line l
renewed_line start here more l (line.Sent text) = renewed_sent start here more text
renewed_line start here more l (line.Shown text) = kept_line l
renewed_line start here more l (line.Cause text) = renewed_cause l (sight_at start here).first (sight_at start here).cause
renewed_line start here more l (line.Reason text) = kept_line l
renewed_line start here more l (line.Explained text) = kept_line l
renewed_line start here more l (line.Command text) = kept_line l

abbrev pub renewed_place : Start → Place → (more : Bool) → CaseLine → Place
renewed_place start here more (line.Script text) = played start here (octets_at text)
renewed_place start here more (line.Title text) = here
renewed_place start here more (line.Unspaced text) = here
renewed_place start here more (line.Words text) = here
renewed_place start here more (line.Sent text) = renewed_sent_place start here more text
renewed_place start here more (line.Shown text) = here
renewed_place start here more (line.Cause text) = here
renewed_place start here more (line.Reason text) = here
renewed_place start here more (line.Explained text) = here
renewed_place start here more (line.Command text) = told_place start here

-- after a command lines stay as they are, up to the next octets
abbrev pub stays_after : Bool → CaseLine → Bool
stays_after stays (line.Script text) = stays && is_none (octets_or_none (octets_at text))
stays_after stays (line.Command text) = true
stays_after stays (line.Title text) = stays
stays_after stays (line.Unspaced text) = stays
stays_after stays (line.Words text) = stays
stays_after stays (line.Sent text) = stays
stays_after stays (line.Shown text) = stays
stays_after stays (line.Cause text) = stays
stays_after stays (line.Reason text) = stays
stays_after stays (line.Explained text) = stays

-- the place after such a line
abbrev pub kept_place : Start → Place → CaseLine → Place
kept_place start here (line.Script text) = played start here (octets_at text)
kept_place start here (line.Title text) = here
kept_place start here (line.Unspaced text) = here
kept_place start here (line.Words text) = here
kept_place start here (line.Sent text) = here
kept_place start here (line.Shown text) = here
kept_place start here (line.Cause text) = here
kept_place start here (line.Reason text) = here
kept_place start here (line.Explained text) = here
kept_place start here (line.Command text) = here

-- the same of both
abbrev pub written_line : Start → Place → (stays more : Bool) → List ℕ → CaseLine → List ℕ
written_line start here true more l said = kept_line l
written_line start here false more l said = renewed_line start here more l said

abbrev pub written_place : Start → Place → (stays more : Bool) → CaseLine → Place
written_place start here true more said = kept_place start here said
written_place start here false more said = renewed_place start here more said

-- the lines from a place on, each with a line feed; `stays` says whether they stay as they are
abbrev pub renewed : Start → Place → (stays : Bool) → List (List ℕ) → List ℕ
renewed start here stays [] = []
renewed start here stays (l ∷ ls) =
    written_line start here stays (more_say ls) l (line_said l)
    ++ renewed start (written_place start here stays (more_say ls) (line_said l)) (stays_after stays (line_said l)) ls

-- ---- a case that has none: they are written after each line of the script

-- how many of the octets above were taken as items
abbrev pub taken_at : Start → Place → ℕ
taken_at start here = length here.above - length (parse_all next_event start.state here.above).rest

-- why an item is an error, where it came
abbrev pub error_text : Bool → Option Cause → List ℕ
error_text true (Some cause) = cause_line (cause_text (Some cause))
error_text true None = []
error_text false cause = []

-- what is sent, and why the last item is an error, after octets that led from a place to another
abbrev pub outcome_text : Start → (here there : Place) → List ℕ
outcome_text start here there =
    told_lines (unspoken start there) ++ error_text (nat_lt (taken_at start here) (taken_at start there)) (sight_at start there).cause

abbrev pub filled_script : Start → Place → Option (List ℕ) → List ℕ
filled_script start here None = []
filled_script start here (Some []) = []
filled_script start here (Some (octet ∷ octets)) = outcome_text start here (played start here (Some (octet ∷ octets)))

abbrev pub filled_place_script : Start → Place → Option (List ℕ) → Place
filled_place_script start here None = here
filled_place_script start here (Some []) = here
filled_place_script start here (Some (octet ∷ octets)) = told_place start (played start here (Some (octet ∷ octets)))

abbrev pub filled_line : Start → Place → CaseLine → List ℕ
filled_line start here (line.Script text) = filled_script start here (octets_at text)
filled_line start here (line.Title text) = []
filled_line start here (line.Unspaced text) = []
filled_line start here (line.Words text) = []
filled_line start here (line.Sent text) = []
filled_line start here (line.Shown text) = []
filled_line start here (line.Cause text) = []
filled_line start here (line.Reason text) = []
filled_line start here (line.Explained text) = []
filled_line start here (line.Command text) = []

abbrev pub filled_place : Start → Place → CaseLine → Place
filled_place start here (line.Script text) = filled_place_script start here (octets_at text)
filled_place start here (line.Title text) = here
filled_place start here (line.Unspaced text) = here
filled_place start here (line.Words text) = here
filled_place start here (line.Sent text) = here
filled_place start here (line.Shown text) = here
filled_place start here (line.Cause text) = here
filled_place start here (line.Reason text) = here
filled_place start here (line.Explained text) = here
filled_place start here (line.Command text) = here

-- the lines from a place on, each with a line feed
abbrev pub filled : Start → Place → List (List ℕ) → List ℕ
filled start here [] = []
filled start here (l ∷ ls) = kept_line l ++ (filled_line start here (line_said l) ++ filled start (filled_place start here (line_said l)) ls)

-- ---- a case

-- the lines of a case that are below a place, each with a line feed
abbrev pub blessed_at : Start → Place → List (List ℕ) → List ℕ
blessed_at start here lines = if have_renewed lines then renewed start here false lines else filled start here lines

-- the lines of a case with this book, these limits and these settings
unfoldable pub blessed : List Entry → Config → List (List ℕ) → List ℕ
blessed book config lines = blessed_at (start_of book config []) first_place lines
