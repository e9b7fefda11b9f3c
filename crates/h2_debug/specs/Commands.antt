-- The commands of `debug`, and the lines that spell them.
use Rattle.std.specs.Prelude.{ℕ, List, length, take, drop, if◌then◌else◌, codes, Option, Some, None, option_map}
use Rattle.std.specs.Str.{bytes_eq}
use Rattle.h2_spec.specs.Texts.Assemble.{number_at}
use Rattle.h2_spec.specs.Texts.Script.{max_u32}
use Rattle.h2_spec.specs.Texts.Debug.{Break, AtPosition, OnType, OnStream, OnSent}

-- what a line asks for
pub data Command : Type 0 where
  Step : ℕ → Command
  Back : ℕ → Command
  Go : ℕ → Command
  Run : Command
  BreakOn : Break → Command
  Clear : Command
  Show : Command
  Why : Command

-- what follows a word at the front of a text
abbrev pub behind : List ℕ → List ℕ → Option (List ℕ)
behind word text = if bytes_eq (take (length word) text) word then Some (drop (length word) text) else None

-- a text with a word at its front is read by what follows the word, any other text in another way
abbrev pub read_behind : {R : Type 0} → Option (List ℕ) → (List ℕ → Option R) → Option R → Option R
read_behind (Some rest) read other = read rest
read_behind None read other = other

-- a number of 1 to 10 decimal digits that is not above the limit
abbrev pub numbered : {R : Type 0} → (ℕ → R) → ℕ → List ℕ → Option R
numbered make most text = option_map make (number_at most text)

-- where a run is to stop: `at N`, `type N`, `stream N` or `sent N`
abbrev pub break_of : List ℕ → Option Break
break_of text =
    read_behind (behind (codes "at ") text) (numbered AtPosition max_u32) (
    read_behind (behind (codes "type ") text) (numbered OnType 255) (
    read_behind (behind (codes "stream ") text) (numbered OnStream max_u32) (
    read_behind (behind (codes "sent ") text) (numbered OnSent 255) None)))

-- a command of one word
abbrev pub word_of : List ℕ → Option Command
word_of line =
    if bytes_eq line (codes "run") then Some Run
    else if bytes_eq line (codes "clear") then Some Clear
    else if bytes_eq line (codes "show") then Some Show
    else if bytes_eq line (codes "why") then Some Why
    else None

-- `step N`, `back N`, `go P`, `break ..`, or one word
abbrev pub command_of : List ℕ → Option Command
command_of line =
    read_behind (behind (codes "step ") line) (numbered Step max_u32) (
    read_behind (behind (codes "back ") line) (numbered Back max_u32) (
    read_behind (behind (codes "go ") line) (numbered Go max_u32) (
    read_behind (behind (codes "break ") line) (λ rest. option_map BreakOn (break_of rest)) (word_of line))))

-- more octets than any command has
abbrev pub longest : ℕ
longest = 24
