use Rattle.std.proofs.Common.{◌∙◌, sym}
use Rattle.h2_cmd_check.proofs.Commanding.{line_given}
use Rattle.h2_cmd_check.proofs.command.give_line.Goals as goal

pub returns : goal.returns
returns c =
    line_given c.args.debugger.now c.obey.new.debugger c.args.line.now _ c.obey.result c.fault_in-fault.result c.command_of.ensures c.obey.ensures c.fault_in-fault.ensures.value c.fault_in-fault.ensures.few
    (sym c.is_memory_fault.ensures ∙ c.if-is_memory_fault.false)
