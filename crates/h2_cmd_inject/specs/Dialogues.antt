-- A file of dialogues, line by line (dialogues/README.md).
use Rattle.std.specs.Prelude.{◌≡◌, ℕ, ◌+◌, ◌-◌, ◌==◌, ◌&&◌, ◌||◌, nat_eq, Bool, true, false, List, [], ◌∷◌, ◌++◌, codes, option_to_list, if◌then◌else◌, Option, Some, None, Result, Ok, Err}
use Rattle.std.specs.List.{starts_with}
use Rattle.h2_cmd_cases.specs.Lines as line
use Rattle.h2_cmd_cases.specs.Lines.{CaseLine, behind, line_said}
use Rattle.h2_cmd_dialogue.specs.Steps.{ScriptFrame, SendsLine, Step}
use Rattle.h2_cmd_dialogue.specs.declared.step.Awaited.{Awaited}
use Rattle.h2_cmd_dialogue.specs.declared.verdict.WantedLine.{WantedLine}
use Rattle.h2_cmd_inject.specs.ScriptLines.{frame_said, if_marked, is_status, item_said, sends_said, wanted_said, with_value}
use Rattle.h2_cmd_inject.specs.declared.file.FileRefusal.{FileRefusal}
use Rattle.h2_cmd_inject.specs.declared.file.FileRefusal.TheVariants as file
use Rattle.h2_cmd_inject.specs.declared.why.LineRefusal.{LineRefusal}
use Rattle.h2_cmd_inject.specs.declared.why.LineRefusal.TheVariants as refusal
use Rattle.h2_cmd_inject.specs.declared.why.Why.{Why}
use Rattle.h2_cmd_inject.specs.declared.why.Why.TheVariants as why

-- a dialogue: the place of its first line, how many lines it has, and its steps
pub record Dialogue : Type 0 where
  pub first : ℕ
  pub count : ℕ
  pub steps : List Step

-- a file as far as it was read: the dialogues before the last; where the last begins, if one does; its steps
pub record Reading : Type 0 where
  pub dialogues : List Dialogue
  pub first : Option ℕ
  pub steps : List Step
  pub last : Option Step

abbrev pub nothing_read : Reading
nothing_read = record { dialogues = []; first = None; steps = []; last = None }

-- ---- where dialogues begin

abbrev pub with_dialogue : (place : ℕ) → Reading → Option ℕ → Reading
with_dialogue place r None = r
with_dialogue place r (Some first) = record r {
  dialogues = r.dialogues ++ record { first = first; count = place - first; steps = r.steps ++ option_to_list r.last } ∷ [];
  steps = [];
  last = None;
}

-- the last dialogue has no line from this place on
abbrev pub ended_before : (place : ℕ) → Reading → Reading
ended_before place r = with_dialogue place r r.first

-- a dialogue begins at the line with this number
abbrev pub begun : (line : ℕ) → Reading → Reading
begun line r = record (ended_before (line - 1) r) { first = Some (line - 1) }

-- ---- the lines of a step

abbrev pub new_step : (line : ℕ) → (is_instead : Bool) → Awaited → Step
new_step line is_instead awaited = record { line = line; awaited = awaited; is_instead = is_instead; frames = []; wanted = []; sends = [] }

-- `;+ ITEM` or `;- ITEM`: a step begins
abbrev pub with_step : (line : ℕ) → (is_instead : Bool) → List ℕ → Reading → Result Reading Why
with_step line is_instead item r =
    with_value (λ a. record r { steps = r.steps ++ option_to_list r.last; last = Some (new_step line is_instead a) }) (item_said item)

-- what belongs to the last step
abbrev pub in_last : {X : Type 0} → (Step → X → Step) → Result X Why → Reading → Option Step → Result Reading Why
in_last f said r None = Err why.NoStep
in_last f said r (Some s) = with_value (λ x. record r { last = Some (f s x) }) said

-- a frame of the script
abbrev pub with_frame : List ℕ → Reading → Result Reading Why
with_frame text r = in_last (λ (s : Step) (f : ScriptFrame). record s { frames = s.frames ++ f ∷ [] }) (frame_said text) r r.last

-- `;< LINE`
abbrev pub with_sends : (line : ℕ) → List ℕ → Reading → Result Reading Why
with_sends line text r = in_last (λ (s : Step) (l : SendsLine). record s { sends = s.sends ++ l ∷ [] }) (sends_said line text) r r.last

-- `;! DUTY REACTION`
abbrev pub with_wanted : (line : ℕ) → List ℕ → Reading → Result Reading Why
with_wanted line text r = in_last (λ (s : Step) (l : WantedLine). record s { wanted = s.wanted ++ l ∷ [] }) (wanted_said line text) r r.last

-- ---- lines

abbrev pub is_comment_behind : List ℕ → Bool
is_comment_behind [] = true
is_comment_behind (c ∷ cs) = c == 32 || c == 59

-- an empty line, or one that begins with a semicolon, alone, before a blank, or before another
abbrev pub is_comment : List ℕ → Bool
is_comment [] = true
is_comment (c ∷ cs) = (c == 59) && is_comment_behind cs

abbrev pub text_taken : List ℕ → Reading → Result Reading Why
text_taken text r =
    if is_comment text then Ok r
    else if starts_with nat_eq text (codes ";") then Err why.Mark
    else with_frame text r

abbrev pub status_taken : List ℕ → Reading → Result Reading Why
status_taken text r = if is_status text then Ok r else Err why.Status

-- a line that is none of a case: a step begins, a status, a comment or a frame
abbrev pub script_taken : (line : ℕ) → List ℕ → Reading → Result Reading Why
script_taken line text r =
    if_marked (behind (codes ";+ ") text) (λ item. with_step line false item r) (
    if_marked (behind (codes ";- ") text) (λ item. with_step line true item r) (
    if_marked (behind (codes ";$ ") text) (λ status. status_taken status r) (text_taken text r)))

-- before the first dialogue there are comments
abbrev pub first_taken : (line : ℕ) → CaseLine → Reading → Result Reading Why
first_taken n (line.Title text) r = Ok (begun n r)
first_taken n (line.Script text) r = if is_comment text then Ok r else Err why.NoTitle
first_taken n (line.Words text) r = Err why.NoTitle
first_taken n (line.Sent text) r = Err why.NoTitle
first_taken n (line.Shown text) r = Err why.NoTitle
first_taken n (line.Cause text) r = Err why.NoTitle
first_taken n (line.Reason text) r = Err why.NoTitle
first_taken n (line.Explained text) r = Err why.NoTitle
first_taken n (line.Command text) r = Err why.NoTitle
first_taken n (line.Unspaced text) r = Err why.NoTitle

-- some marks are those of a case
abbrev pub later_taken : (line : ℕ) → CaseLine → Reading → Result Reading Why
later_taken n (line.Title text) r = Ok (begun n r)
later_taken n (line.Script text) r = script_taken n text r
later_taken n (line.Words text) r = Ok r
later_taken n (line.Sent text) r = with_sends n text r
later_taken n (line.Shown text) r = Err why.Mark
later_taken n (line.Cause text) r = with_wanted n text r
later_taken n (line.Reason text) r = Err why.Mark
later_taken n (line.Explained text) r = Err why.Mark
later_taken n (line.Command text) r = Err why.Mark
later_taken n (line.Unspaced text) r = Err why.Mark

abbrev pub taken_as : (line : ℕ) → List ℕ → Reading → Option ℕ → Result Reading Why
taken_as n text r None = first_taken n (line_said text) r
taken_as n text r (Some first) = later_taken n (line_said text) r

-- the line with this number
abbrev pub line_taken : (line : ℕ) → List ℕ → Reading → Result Reading Why
line_taken n text r = taken_as n text r r.first

-- ---- a file

abbrev pub line_then : (line : ℕ) → Result Reading Why → (Reading → Result (List Dialogue) (ℕ × Why)) → Result (List Dialogue) (ℕ × Why)
line_then n (Ok r) follow = follow r
line_then n (Err reason) follow = Err (n, reason)

-- the lines from this number on
abbrev pub lines_taken : (line : ℕ) → List (List ℕ) → Reading → Result (List Dialogue) (ℕ × Why)
lines_taken n [] r = Ok (ended_before (n - 1) r).dialogues
lines_taken n (l ∷ ls) r = line_then n (line_taken n l r) (λ s. lines_taken (n + 1) ls s)

-- the dialogues of a file's lines; or the number of the first that is none of a dialogue, and why
abbrev pub dialogues_said : List (List ℕ) → Result (List Dialogue) (ℕ × Why)
dialogues_said lines = lines_taken 1 lines nothing_read

-- ---- the code's results

-- a line was taken as it says, or refused for its reason; or memory was refused
abbrev pub Takes : Result Unit LineRefusal → Reading → Result Reading Why → Type 0
Takes (Ok u) r said = said ≡ Ok r
Takes (Err refusal.NoMemory) r said = Unit {0}
Takes (Err (refusal.Because reason)) r said = said ≡ Err reason

-- the same of a file
abbrev pub ReadsFile : {X : Type 0} → (X → List Dialogue) → Result X FileRefusal → Result (List Dialogue) (ℕ × Why) → Type 0
ReadsFile view (Ok dialogues) said = said ≡ Ok (view dialogues)
ReadsFile view (Err file.NoMemory) said = Unit {0}
ReadsFile view (Err (file.Line n reason)) said = said ≡ Err (n, reason)
