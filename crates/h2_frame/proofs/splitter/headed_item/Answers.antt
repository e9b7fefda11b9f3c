use Rattle.std.proofs.Common.{rules}
use Rattle.h2_frame.proofs.splitter.headed_item.Goals as goal

pub returns-then-rest-size-clause-item : goal.returns-then-rest-size-clause-item
returns-then-rest-size-clause-item c = search rules
