-- What `table` prints for a line, by what the line did.
use Rattle.std.specs.Prelude.{ℕ, List}
use Rattle.h2_spec.specs.Hpack.DynamicTable.{LimitedTable}
use Rattle.h2_cmd_batch.specs.Faults.{fault_line}
use Rattle.h2_cmd_batch.specs.TableProgram.{counts_line}
use Rattle.h2_cmd_batch.specs.declared.commands.table.TableReply.{TableReply}
use Rattle.h2_cmd_batch.specs.declared.commands.table.TableReply.TheVariants.{Counts, Refused}

-- the text of a reply, of this table
abbrev pub reply_text : LimitedTable → TableReply → List ℕ
reply_text t Counts = counts_line t.table
reply_text t (Refused fault) = fault_line fault
