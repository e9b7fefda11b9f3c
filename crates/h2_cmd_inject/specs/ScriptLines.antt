-- The parts of a dialogue's lines (dialogues/README.md).
use Rattle.std.specs.Prelude.{ℕ, zero, suc, ◌+◌, ◌==◌, ◌&&◌, ◌||◌, nat_eq, nat_le, Bool, true, false, List, [], ◌++◌, length, take, drop, codes, position, is_some, if◌then◌else◌, Option, Some, None, option_map, Result, Ok, Err}
use Rattle.std.specs.List.{starts_with}
use Rattle.std.specs.Option.{option_and_then, option_map_or}
use Rattle.std.specs.Str.{bytes_eq}
use Rattle.h2_explain_words.specs.Names.{code_name}
use Rattle.h2_explain_words.specs.Sent.{FirstFrame, first_frame}
use Rattle.h2_spec.specs.Texts.Assemble.{number_at}
use Rattle.h2_cmd_cases.specs.Frames.{octets_at}
use Rattle.h2_cmd_cases.specs.Lines.{behind}
use Rattle.h2_cmd_check.specs.Texts.{before}
use Rattle.h2_cmd_dialogue.specs.Steps.{ScriptFrame, SendsLine}
use Rattle.h2_cmd_dialogue.specs.declared.step.Awaited.{Awaited}
use Rattle.h2_cmd_dialogue.specs.declared.step.Awaited.TheVariants as awaited
use Rattle.h2_cmd_dialogue.specs.declared.step.Means.{Means}
use Rattle.h2_cmd_dialogue.specs.declared.step.Means.TheVariants as means
use Rattle.h2_cmd_dialogue.specs.declared.step.Pattern.{Pattern}
use Rattle.h2_cmd_dialogue.specs.declared.verdict.Duty.{Duty}
use Rattle.h2_cmd_dialogue.specs.declared.verdict.Duty.TheVariants as duty
use Rattle.h2_cmd_dialogue.specs.declared.verdict.Wanted.{Wanted}
use Rattle.h2_cmd_dialogue.specs.declared.verdict.Wanted.TheVariants as wanted
use Rattle.h2_cmd_dialogue.specs.declared.verdict.WantedLine.{WantedLine}
use Rattle.h2_cmd_inject.specs.declared.why.Why.{Why}
use Rattle.h2_cmd_inject.specs.declared.why.Why.TheVariants as why

-- ---- a value or a refusal

abbrev pub or_refused : {X : Type 0} → Why → Option X → Result X Why
or_refused reason None = Err reason
or_refused reason (Some x) = Ok x

abbrev pub with_value : {X Y : Type 0} → (X → Y) → Result X Why → Result Y Why
with_value f (Ok x) = Ok (f x)
with_value f (Err reason) = Err reason

-- what follows a mark says one thing, a text without it another
abbrev pub if_marked : {X : Type 0} → Option (List ℕ) → (List ℕ → X) → X → X
if_marked (Some text) says other = says text
if_marked None says other = other

-- ---- frames

abbrev pub script_frame : FirstFrame → ScriptFrame
script_frame f = record { head = f.head; payload = f.payload }

-- the frame that octets begin with
abbrev pub front_frame : List ℕ → Option ScriptFrame
front_frame octets = option_map script_frame (first_frame octets)

-- that of a line of a script
abbrev pub frame_at : List ℕ → Option ScriptFrame
frame_at line = option_and_then front_frame (octets_at line)

abbrev pub is_octets : List ℕ → Bool
is_octets line = bytes_eq line (codes "PREFACE") || starts_with nat_eq line (codes "RAW ")

-- a line is one frame
abbrev pub frame_said : List ℕ → Result ScriptFrame Why
frame_said line = if is_octets line then Err why.NotOneFrame else or_refused why.NotScript (frame_at line)

-- NAME FLAGS STREAM writes a frame without a payload
abbrev pub pattern_at : List ℕ → Option ScriptFrame
pattern_at text = frame_at (text ++ codes " -")

abbrev pub unreserved : Option ScriptFrame → Result ScriptFrame Why
unreserved None = Err why.Item
unreserved (Some f) = if f.head.reserved then Err why.Item else Ok f

-- the stream has no reserved bit
abbrev pub pattern_said : List ℕ → Result ScriptFrame Why
pattern_said text = unreserved (pattern_at text)

-- ---- items, and lines `;<`

abbrev pub frame_item : ScriptFrame → Awaited
frame_item f = awaited.Frame (record { kind = f.head.kind; flags = f.head.flags; stream = f.head.stream })

-- an item is `start`, `pong`, or a pattern
abbrev pub item_said : List ℕ → Result Awaited Why
item_said text =
    if bytes_eq text (codes "start") then Ok awaited.Start
    else if bytes_eq text (codes "pong") then Ok awaited.Pong
    else with_value frame_item (pattern_said text)

abbrev pub sends_line : (line : ℕ) → Means → ScriptFrame → SendsLine
sends_line line m f = record { line = line; means = m; frame = f }

-- a pattern after `! ` is of no frame, a frame before `...` the beginning of one
abbrev pub sends_said : (line : ℕ) → List ℕ → Result SendsLine Why
sends_said line text =
    if_marked (behind (codes "! ") text) (λ pattern. with_value (sends_line line means.Never) (pattern_said pattern)) (
    if_marked (before (codes "...") text) (λ front. with_value (sends_line line means.Beginning) (frame_said front)) (
    with_value (sends_line line means.Frame) (frame_said text)))

-- ---- lines `;!`

abbrev pub word_before : List ℕ → Option ℕ → List ℕ
word_before text None = text
word_before text (Some blank) = take blank text

abbrev pub words_after : List ℕ → Option ℕ → List ℕ
words_after text None = []
words_after text (Some blank) = drop (blank + 1) text

-- a text up to its first blank, and what is after that
abbrev pub first_word : List ℕ → List ℕ
first_word text = word_before text (position (λ octet. octet == 32) text)

abbrev pub rest_of_words : List ℕ → List ℕ
rest_of_words text = words_after text (position (λ octet. octet == 32) text)

abbrev pub has_name : (code : ℕ) → List ℕ → Bool
has_name code name = option_map_or (λ known. bytes_eq known name) (code_name code) false

-- the first code with a name, of this many from one on
abbrev pub code_upto : ℕ → (code : ℕ) → List ℕ → Option ℕ
code_upto zero code name = None
code_upto (suc more) code name = if has_name code name then Some code else code_upto more (code + 1) name

-- the error code with a name (RFC 9113, 7)
abbrev pub code_named : List ℕ → Option ℕ
code_named name = code_upto 14 0 name

abbrev pub stream_error : Option ℕ → Option ℕ → Option Wanted
stream_error (Some stream) (Some code) = Some (wanted.Stream stream code)
stream_error (Some stream) None = None
stream_error None code = None

-- N CODE
abbrev pub wanted_stream : List ℕ → Option Wanted
wanted_stream text = stream_error (number_at 2147483647 (first_word text)) (code_named (rest_of_words text))

-- `-`, `connection CODE` or `stream N CODE`
abbrev pub wanted_in : List ℕ → Option Wanted
wanted_in text =
    if bytes_eq text (codes "-") then Some wanted.GoesOn
    else if bytes_eq (first_word text) (codes "connection") then option_map wanted.Connection (code_named (rest_of_words text))
    else if bytes_eq (first_word text) (codes "stream") then wanted_stream (rest_of_words text)
    else None

abbrev pub duty_of : List ℕ → Option Duty
duty_of word =
    if bytes_eq word (codes "MUST") then Some duty.Must
    else if bytes_eq word (codes "MUST?") then Some duty.Unsettled
    else if bytes_eq word (codes "SHOULD") then Some duty.Should
    else if bytes_eq word (codes "MAY") then Some duty.May
    else None

abbrev pub reaction_said : (line : ℕ) → Option Duty → Option Wanted → Result WantedLine Why
reaction_said line None w = Err why.Duty
reaction_said line (Some d) None = Err why.Reaction
reaction_said line (Some d) (Some w) = Ok (record { line = line; duty = d; wanted = w })

-- DUTY REACTION
abbrev pub wanted_said : (line : ℕ) → List ℕ → Result WantedLine Why
wanted_said line text = reaction_said line (duty_of (first_word text)) (wanted_in (rest_of_words text))

-- ---- lines `;$`

abbrev pub digits_in : List ℕ → Option (List ℕ) → List ℕ
digits_in text None = text
digits_in text (Some digits) = digits

abbrev pub digits_of : List ℕ → List ℕ
digits_of text = digits_in text (behind (codes "!") text)

-- up to three digits, after `!` or not
abbrev pub is_status : List ℕ → Bool
is_status text = nat_le (length (digits_of text)) 3 && is_some (number_at 999 (digits_of text))
