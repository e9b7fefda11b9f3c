-- What a program answers to its input: a text and a status, or a fault.
use Rattle.std.specs.Prelude.{◌≡◌, ◌⊎◌, Result, Ok, Err, string_bytes}
use Rattle.std.specs.declared.string.String.{String}
use Rattle.h2_cmd_batch.specs.Printing.{Printed, done, failed}
use Rattle.h2_cmd_batch.specs.declared.fault.BenchFault.{BenchFault}
use Rattle.h2_cmd_batch.specs.declared.fault.BenchFault.TheVariants.{NoMemory}
use Rattle.h2_cmd_batch.specs.declared.report.Report.{Report}
use Rattle.h2_cmd_batch.specs.declared.report.Report.TheVariants as report
use Rattle.h2_cmd_batch.specs.ScriptPrograms.{hex_line, syntax_line}

-- what a report says
abbrev pub printed_by : Report → Printed
printed_by (report.Octets octets) = done (hex_line octets.items)
printed_by (report.Syntax line kind) = record { text = syntax_line line kind; status = 1 }
printed_by (report.Script text) = done (string_bytes text)

-- the same where a fault may take its place
abbrev pub seen : Result Report BenchFault → Printed
seen (Ok report) = printed_by report
seen (Err fault) = failed fault

-- it is what is to be reported, or memory was refused
abbrev pub Gives : Result Report BenchFault → Printed → Type 0
Gives (Ok report) t = t ≡ printed_by report
Gives (Err fault) t = (fault ≡ NoMemory) ⊎ (t ≡ failed fault)

-- the text is what is to be reported, with status 0, or memory was refused
abbrev pub Meets : {Z : Type 0} → Result (String Z) BenchFault → Printed → Type 0
Meets (Ok text) t = t ≡ done (string_bytes text)
Meets (Err fault) t = (fault ≡ NoMemory) ⊎ (t ≡ failed fault)
