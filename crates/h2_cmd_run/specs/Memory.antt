-- What a command over memory prints, whole.
use Rattle.std.specs.Prelude.{◌≡◌, ◌⊎◌, ℕ, false, List, [], None, Result, Ok, Err}
use Rattle.h2_spec.specs.Requests.Answer.{Entry}
use Rattle.h2_spec.specs.declared.connection.Config.{Config}
use Rattle.h2_cmd_book_file.specs.Entries.{Directory}
use Rattle.h2_debug.specs.Session as session
use Rattle.h2_cmd_args.specs.Grammar.{BookAsked}
use Rattle.h2_cmd_batch.specs.Books.{book_said}
use Rattle.h2_cmd_batch.specs.Printing.{Printed, failed, refused}
use Rattle.h2_cmd_batch.specs.declared.fault.BenchFault.TheVariants.{NoMemory}
use Rattle.h2_cmd_run.specs.declared.memory.Ran.{Ran}

-- the text and the status
abbrev pub printed_in : Ran → Printed
printed_in ran = record { text = ran.output.items; status = ran.status }

-- nothing is printed for words that ask for connections to be served
abbrev pub unserved : Printed
unserved = record { text = []; status = 2 }

-- the fault of the book, or a session with its entries over an input of which no read failed
abbrev pub IsDebuggedWith : Result (List Entry) ℕ → Config → List ℕ → Printed → Type 0
IsDebuggedWith (Err fault) config input t = t ≡ refused fault
IsDebuggedWith (Ok entries) config input t = session.IsSession entries config input false None (record { text = t.text; status = t.status })

-- or memory was refused for the book
abbrev pub IsDebugged : Directory → Config → BookAsked → List ℕ → Printed → Type 0
IsDebugged files config book input t = (t ≡ failed NoMemory) ⊎ IsDebuggedWith (book_said files book) config input t
