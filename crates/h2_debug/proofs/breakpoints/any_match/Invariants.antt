use Rattle.std.proofs.Common.{◌≡◌, drop}
use Rattle.std.specs.List.{list_any}
use Rattle.std.specs.Prelude.{map}
use Rattle.h2_spec.specs.Texts.Debug.{matches}
use Rattle.h2_spec.specs.Trace.{Event}
use Rattle.h2_debug.specs.Breakpoints.{break_of}
use Rattle.h2_debug.specs.Items.{IsItem}
use Rattle.h2_debug.proofs.breakpoints.any_match.Given as goal

abbrev pub invariant-loop-stop : goal.invariant-loop-stop
invariant-loop-stop l = (e : Event) → IsItem l.position l.octets l.sent e →
    list_any (matches l.position e) (map break_of l.breaks) ≡ list_any (matches l.position e) (map break_of (drop l.stop-index l.breaks))
