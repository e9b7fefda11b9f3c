use Rattle.h2_streams.proofs.PlaceLaws.{place-found}
use Rattle.h2_streams.proofs.lookup.live.place_in.Goals as goal

pub returns-in-Some : goal.returns-in-Some
returns-in-Some g c = (place-found c.args.id 0 c.args.records.now c.in-Some.place c.requires c.in-Some.ensures).1
