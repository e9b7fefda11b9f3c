use Rattle.std.proofs.Common.{rules}
use Rattle.h2_frame.proofs.splitter.Splitter.new.Goals as goal

pub returns : goal.returns
returns g c = search rules
