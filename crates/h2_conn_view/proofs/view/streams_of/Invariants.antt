use Rattle.std.proofs.Common.{◌≡◌, ◌-◌, length, map, take}
use Rattle.h2_spec.specs.Texts.View.{shown_stream}
use Rattle.h2_conn_view.proofs.view.streams_of.Given as goal

abbrev pub invariant-loop-stream : goal.invariant-loop-stream
invariant-loop-stream g l = l.views.items ≡ map shown_stream (take (length l.views.items) l.streams.streams)

abbrev pub decreases-loop-stream : goal.decreases-loop-stream
decreases-loop-stream g l = length l.streams.streams - length l.views.items
