-- A debugger before its first command.
use Rattle.std.specs.Prelude.{ℕ, List, []}
use Rattle.h2_spec.specs.Requests.Answer.{Entry}
use Rattle.h2_spec.specs.declared.connection.Config.{Config}
use Rattle.h2_debug.specs.Debugging.{Debugging}

-- a new debugger
abbrev pub loaded : List Entry → Config → List ℕ → Debugging
loaded book config octets = record { run = record { book = book; config = config; octets = octets }; breaks = []; position = 0; reached = 0; ran = 0; replayed = 0 }
