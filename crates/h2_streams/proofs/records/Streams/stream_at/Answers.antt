use Rattle.std.proofs.Common.{sym}
use Rattle.h2_streams.proofs.PlaceLaws.{found-id}
use Rattle.h2_streams.proofs.records.Streams.stream_at.Goals as goal

pub returns-in-Some-clause-id : goal.returns-in-Some-clause-id
returns-in-Some-clause-id g c = found-id c.args.self.now.streams c.args.id c.in-Some.stream (sym c.in-Some.ensures)
