-- Why nothing is served, or no more.
use Rattle.std.specs.Prelude.{Bool, true, false, Result, Ok, Err}
use Rattle.h2_cmd_inject.specs.declared.serving.Stop.{Stop}
use Rattle.h2_cmd_inject.specs.declared.serving.Stop.TheVariants.{NoMemory, Sentence, Fault, NotWritten}

abbrev pub is_written : Stop → Bool
is_written NoMemory = false
is_written (Sentence text) = false
is_written (Fault fault) = false
is_written NotWritten = true

-- whether something was not written, as the output failed
abbrev pub is_unwritten : {X : Type 0} → Result X Stop → Bool
is_unwritten (Ok x) = false
is_unwritten (Err stop) = is_written stop
