-- The programs `asm` and `dis`: what they report of their input.
use Rattle.std.specs.Prelude.{ℕ, List, [], ◌∷◌, codes, decimal, if◌then◌else◌, Option, Some, None, Result, Ok, Err}
use Rattle.std.specs.Str.{is_utf8}
use Rattle.hex.specs.Hex.{encode_lower}
use Rattle.h2_spec.specs.Texts.Assemble.{assembled}
use Rattle.h2_spec.specs.Texts.Script.{kind_number}
use Rattle.h2_spec.specs.Texts.Show.{joined}
use Rattle.h2_spec.specs.Texts.Written.{written}
use Rattle.h2_spec.specs.declared.scripts.SyntaxKind.{SyntaxKind}
use Rattle.h2_cmd_batch.specs.Printing.{Printed, done, failed}
use Rattle.h2_cmd_batch.specs.declared.fault.BenchFault.TheVariants.{Read, BadHex}

-- the line that reports the first bad line of a script, counted from 1, and the least kind of fault in it
unfoldable pub syntax_line : ℕ → SyntaxKind → List ℕ
syntax_line line kind = joined (codes "fault 18 " ∷ decimal line ∷ codes " " ∷ decimal (kind_number kind) ∷ codes "\n" ∷ [])

-- the octets in hex, on one line
unfoldable pub hex_line : List ℕ → List ℕ
hex_line octets = joined (encode_lower octets ∷ codes "\n" ∷ [])

-- the octets of a script, or its first bad line
abbrev pub printed_assembled : Result (List ℕ) (ℕ × SyntaxKind) → Printed
printed_assembled (Ok octets) = done (hex_line octets)
printed_assembled (Err (line, kind)) = record { text = syntax_line line kind; status = 1 }

-- `asm` of a text; what is not UTF-8 is not read
abbrev pub printed_asm : List ℕ → Printed
printed_asm input = if is_utf8 input then printed_assembled (assembled input) else failed Read

-- `dis` of the octets that the input gives
abbrev pub printed_dis : Option (List ℕ) → Printed
printed_dis None = failed BadHex
printed_dis (Some octets) = done (written octets)
