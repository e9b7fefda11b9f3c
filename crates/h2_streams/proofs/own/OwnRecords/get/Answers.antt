use Rattle.std.proofs.Common.{subst, sym}
use Rattle.h2_streams.specs.Kept.{Rise}
use Rattle.h2_streams.proofs.PlaceLaws.{rise}
use Rattle.h2_streams.proofs.own.OwnRecords.get.Goals as goal

pub record_in-requires : goal.record_in-requires
record_in-requires g c = subst (Rise 0) (sym c.as_slice.ensures.value) (rise 0 c.self.inside.last c.self.inside.records.items c.self.invariant.0.rising)
