use Rattle.std.proofs.Common.{refl}
use Rattle.std.specs.Fmt.{digits}
use Rattle.h2_cmd_batch.specs.Faults.{fault_line}
use Rattle.h2_cmd_batch.proofs.fault.entry_line.Goals as goal

pub returns-in-BadStatus : goal.returns-in-BadStatus
unfolding fault_line digits
returns-in-BadStatus c = rw c.in-BadStatus.is refl

pub returns-in-BadField : goal.returns-in-BadField
unfolding fault_line digits
returns-in-BadField c = rw c.in-BadField.is refl

pub returns-in-BodyNotAllowed : goal.returns-in-BodyNotAllowed
unfolding fault_line digits
returns-in-BodyNotAllowed c = rw c.in-BodyNotAllowed.is refl

pub returns-in-TooLong : goal.returns-in-TooLong
unfolding fault_line digits
returns-in-TooLong c = rw c.in-TooLong.is refl
