use Rattle.std.proofs.Common.{refl}
use Rattle.std.specs.Fmt.{digits}
use Rattle.h2_cmd_batch.specs.Faults.{fault_line}
use Rattle.h2_cmd_batch.proofs.fault.BenchFault.line.Goals as goal

pub returns-in-NoMemory : goal.returns-in-NoMemory
unfolding fault_line digits
returns-in-NoMemory c = rw c.in-NoMemory.is refl

pub returns-in-Read : goal.returns-in-Read
unfolding fault_line digits
returns-in-Read c = rw c.in-Read.is refl

pub returns-in-Write : goal.returns-in-Write
unfolding fault_line digits
returns-in-Write c = rw c.in-Write.is refl

pub returns-in-BadHex : goal.returns-in-BadHex
unfolding fault_line digits
returns-in-BadHex c = rw c.in-BadHex.is refl

pub returns-in-BadAnswer : goal.returns-in-BadAnswer
unfolding fault_line digits
returns-in-BadAnswer c = rw c.in-BadAnswer.is refl

pub returns-in-BadCommand : goal.returns-in-BadCommand
unfolding fault_line digits
returns-in-BadCommand c = rw c.in-BadCommand.is refl

pub returns-in-BadConfig : goal.returns-in-BadConfig
unfolding fault_line digits
returns-in-BadConfig c = rw c.in-BadConfig.is refl

pub returns-in-Socket : goal.returns-in-Socket
unfolding fault_line digits
returns-in-Socket c = rw c.in-Socket.is refl
