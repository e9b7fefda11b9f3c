use Rattle.std.proofs.Common.{◌∙◌}
use Rattle.h2_streams.proofs.PlaceLaws.{found-there}
use Rattle.h2_streams.proofs.lookup.live.record_in.Goals as goal

pub returns-in-Some : goal.returns-in-Some
returns-in-Some g c = c.record_at.ensures ∙ found-there c.args.id c.args.records.now c.in-Some.place c.requires c.in-Some.ensures
