use Rattle.std.proofs.Common.{◌≡◌, ◌∙◌, ap}
use Rattle.std.specs.List.{filter}
use Rattle.std.specs.Map.{values_of}
use Rattle.h2_streams.specs.Kept.{is_entered, lives}
use Rattle.h2_streams.specs.Rebuilt.{live_at}
use Rattle.h2_streams.proofs.LiveLaws.{kept-places, unentered}
use Rattle.h2_streams.proofs.RebuiltLaws.{live-of}
use Rattle.h2_streams.proofs.own.OwnRecords.live_list.Goals as goal

pub returns : goal.returns
returns g c =
    let s = c.self.inside in
    let kept = c.self.invariant.0 in
    let live : live_at s.records.items (values_of s.live.entries) ≡ filter lives s.records.items =
    ap (live_at s.records.items) (kept-places s.records.items s.live.entries s.ended s.ready.items s.last kept) ∙ live-of (is_entered kept.left) (unentered kept.left) s.records.items in
    rw (← c.self.view_is, ← live, ← c.as_slice.ensures.value) c.live_records.ensures
