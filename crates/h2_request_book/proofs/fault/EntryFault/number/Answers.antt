use Rattle.std.proofs.Common.{refl}
use Rattle.h2_request_book.proofs.fault.EntryFault.number.Goals as goal

pub returns-in-TooLong : goal.returns-in-TooLong
returns-in-TooLong c = rw c.in-TooLong.is refl
