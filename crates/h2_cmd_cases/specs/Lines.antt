-- What a line of a case file says: it is a line of the script, or a comment that says something of the case. Such a comment
-- begins with a semicolon, a mark and a space; one that lacks the space is an error of the case.
use Rattle.std.specs.Prelude.{ℕ, ◌||◌, Bool, true, false, List, length, take, drop, codes, nat_eq, if◌then◌else◌, Option, Some, None}
use Rattle.std.specs.List.{starts_with}
use Rattle.std.specs.Str.{bytes_eq}
use Rattle.h2_cmd_cases.specs.declared.line.Line.{Line}
use Rattle.h2_cmd_cases.specs.declared.line.Line.TheVariants as code

pub data CaseLine : Type 0 where
  -- a line of the script
  Script : List ℕ → CaseLine
  -- a case begins
  Title : List ℕ → CaseLine
  -- words of the command line
  Words : List ℕ → CaseLine
  -- a frame that the server sends
  Sent : List ℕ → CaseLine
  -- a line of the state
  Shown : List ℕ → CaseLine
  -- why the item before is an error
  Cause : List ℕ → CaseLine
  -- why the item before is ignored
  Reason : List ℕ → CaseLine
  -- a line of `explain`
  Explained : List ℕ → CaseLine
  -- a command of `debug`
  Command : List ℕ → CaseLine
  -- a mark without the space after it
  Unspaced : List ℕ → CaseLine

-- what follows a mark at the front of a line
abbrev pub behind : List ℕ → List ℕ → Option (List ℕ)
behind mark line = if bytes_eq (take (length mark) line) mark then Some (drop (length mark) line) else None

-- a line with a mark at its front says this of what follows, any other line something else
abbrev pub said_behind : Option (List ℕ) → (List ℕ → CaseLine) → CaseLine → CaseLine
said_behind (Some text) says other = says text
said_behind None says other = other

-- a line begins with a semicolon and a mark
abbrev pub is_marked : List ℕ → Bool
is_marked line =
    starts_with nat_eq line (codes ";#") || starts_with nat_eq line (codes ";@")
    || starts_with nat_eq line (codes ";<") || starts_with nat_eq line (codes ";=")
    || starts_with nat_eq line (codes ";!") || starts_with nat_eq line (codes ";?")
    || starts_with nat_eq line (codes ";>") || starts_with nat_eq line (codes ";&")

-- a line of the script, unless it begins with a mark
abbrev pub rest_said : List ℕ → CaseLine
rest_said line = if is_marked line then Unspaced line else Script line

-- what a line expects, if anything
abbrev pub expectation_said : List ℕ → CaseLine
expectation_said line =
    said_behind (behind (codes ";< ") line) Sent (
    said_behind (behind (codes ";= ") line) Shown (
    said_behind (behind (codes ";! ") line) Cause (
    said_behind (behind (codes ";? ") line) Reason (
    said_behind (behind (codes ";> ") line) Explained (
    said_behind (behind (codes ";& ") line) Command (rest_said line))))))

-- what a line says
abbrev pub line_said : List ℕ → CaseLine
line_said line =
    said_behind (behind (codes ";# ") line) Title (
    said_behind (behind (codes ";@ ") line) Words (expectation_said line))

-- what a value says
abbrev pub said_by : Line → CaseLine
said_by (code.Script text) = Script text.now
said_by (code.Title text) = Title text.now
said_by (code.Words text) = Words text.now
said_by (code.Sent text) = Sent text.now
said_by (code.Shown text) = Shown text.now
said_by (code.Cause text) = Cause text.now
said_by (code.Reason text) = Reason text.now
said_by (code.Explained text) = Explained text.now
said_by (code.Command text) = Command text.now
said_by (code.Unspaced text) = Unspaced text.now

-- whether a line begins a case
abbrev pub begins : CaseLine → Bool
begins (Title text) = true
begins (Unspaced text) = false
begins (Script text) = false
begins (Words text) = false
begins (Sent text) = false
begins (Shown text) = false
begins (Cause text) = false
begins (Reason text) = false
begins (Explained text) = false
begins (Command text) = false

-- whether a line expects something
abbrev pub expects : CaseLine → Bool
expects (Title text) = false
expects (Unspaced text) = true
expects (Script text) = false
expects (Words text) = false
expects (Sent text) = true
expects (Shown text) = true
expects (Cause text) = true
expects (Reason text) = true
expects (Explained text) = true
expects (Command text) = true
