use Rattle.std.proofs.Common.{rules}
use Rattle.h2_spec.proofs.flow.Window.take.Goals as goal

pub minus-requires : goal.minus-requires
minus-requires c = search rules
