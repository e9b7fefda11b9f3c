use Rattle.std.proofs.Common.{drop}
use Rattle.h2_streams.specs.Brief.{AreBrief}
use Rattle.h2_streams.proofs.kinds.are_brief.Given as goal

abbrev pub invariant-loop-stream : goal.invariant-loop-stream
invariant-loop-stream l = AreBrief (drop l.stream-index l.streams) → AreBrief l.streams
