use Rattle.std.proofs.Common.{arith}
use Rattle.std.proofs.lemmas.Grind.{elements}
use Rattle.h2_spec.specs.Frames.Frame.{next}
use Rattle.h2_frame.proofs.splitter.preface_item.Goals as goal

pub returns-clause-item : goal.returns-clause-item
unfolding next
returns-clause-item c = grind (arith, elements)
