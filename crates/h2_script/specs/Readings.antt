-- What the code read, beside what reading gives.
use Rattle.std.specs.Prelude.{◌≡◌, ◌≤◌, ◌==◌, ◌^◌, ◌++◌, ℕ, Bool, true, false, List, [], ◌∷◌, length, Option, Some, None, Result, Ok, Err}
use Rattle.h2_spec.specs.Hpack.Instruction.{Instruction}
use Rattle.h2_spec.specs.Texts.Script.{Bad, Payload, Statement, instruction_octets, octets_of, payload_octets}
use Rattle.h2_spec.specs.declared.scripts.SyntaxKind.{SyntaxKind}
use Rattle.h2_script.specs.declared.built.Built.{Built}
use Rattle.h2_script.specs.declared.built.Built.TheVariants as built
use Rattle.h2_script.specs.declared.fault.LineFault.{LineFault}
use Rattle.h2_script.specs.declared.fault.LineFault.TheVariants as line
use Rattle.h2_script.specs.declared.fault.ScriptFault.{ScriptFault}
use Rattle.h2_script.specs.declared.fault.ScriptFault.TheVariants as script

-- the octets of a payload, or the fact that they are too many
abbrev pub IsBuilt : {A : Type 0} → Option (Built A) → Option Payload → Type 0
IsBuilt None read = read ≡ None
IsBuilt (Some (built.Whole v)) read = (p : Payload) × (read ≡ Some p) × (v.items ≡ payload_octets p)
IsBuilt (Some built.Long) read = (p : Payload) × (read ≡ Some p) × (2 ^ 24 ≤ length (payload_octets p))

-- the octets were written out, or they are more than a frame holds
abbrev pub WrittenOut : Bool → List ℕ → List ℕ → Type 0
WrittenOut long items octets = (long ≡ false → items ≡ octets) × (long ≡ true → 2 ^ 24 ≤ length octets)

-- the instruction at the front was added, and this is left after it, or there is none
abbrev pub AddsFirst : Bool → List ℕ → Bool → List ℕ → Option (List ℕ) → Option (Instruction × List ℕ) → Type 0
AddsFirst long old long' new None read = None ≡ read
AddsFirst long old long' new (Some left) read = (i : Instruction) × (Some (i, left) ≡ read) × ((o : List ℕ) → WrittenOut long old o → WrittenOut long' new (o ++ instruction_octets i))

-- the octets of a statement after others
abbrev pub with_octets : List ℕ → Result Statement SyntaxKind → Result (List ℕ) SyntaxKind
with_octets old (Ok s) = Ok (old ++ octets_of s)
with_octets old (Err kind) = Err kind

-- a line that is empty or a comment
abbrev pub says_nothing : List ℕ → Bool
says_nothing [] = true
says_nothing (c ∷ cs) = c == 59

-- a line's octets were added, or it is bad so
abbrev pub Adds : List ℕ → List ℕ → Result Unit LineFault → Result Statement SyntaxKind → Type 0
Adds old new (Ok u) read = with_octets old read ≡ Ok new
Adds old new (Err line.NoMemory) read = Unit {0}
Adds old new (Err (line.Bad kind)) read = read ≡ Err kind

-- the same of the line of this number
abbrev pub AddsAt : ℕ → List ℕ → List ℕ → Result Unit ScriptFault → Result Statement SyntaxKind → Type 0
AddsAt n old new (Ok u) read = with_octets old read ≡ Ok new
AddsAt n old new (Err script.NoMemory) read = Unit {0}
AddsAt n old new (Err (script.Syntax at kind)) read = (at ≡ n) × (read ≡ Err kind)

-- the first bad line is reported, unless memory was refused
abbrev pub Refuses : ScriptFault → Result (List ℕ) (ℕ × SyntaxKind) → Type 0
Refuses script.NoMemory read = Unit {0}
Refuses (script.Syntax at kind) read = read ≡ Err (at, kind)

-- a script was assembled, or its first bad line was found
abbrev pub Assembles : {X : Type 0} → (X → List ℕ) → Result X ScriptFault → Result (List ℕ) (ℕ × SyntaxKind) → Type 0
Assembles view (Ok x) read = read ≡ Ok (view x)
Assembles view (Err fault) read = Refuses fault read

-- the fault names the text's first bad line and its least kind of fault, unless memory was refused
abbrev pub NamesBadLine : List ℕ → ScriptFault → Type 0
NamesBadLine text script.NoMemory = Unit {0}
NamesBadLine text (script.Syntax at kind) = Bad text at kind
