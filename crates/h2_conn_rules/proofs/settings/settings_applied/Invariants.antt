use Rattle.std.proofs.Common.{◌≡◌, List, drop}
use Rattle.h2_frame.specs.Parts.{settings_in}
use Rattle.h2_spec.specs.declared.streams.Stream.{Stream}
use Rattle.h2_spec.specs.SettingsFrame.{settings_applied}
use Rattle.h2_streams.specs.Greatest.{IsGreatest}
use Rattle.h2_conn_rules.proofs.settings.settings_applied.Given as goal

abbrev pub invariant-loop-place : goal.invariant-loop-place
invariant-loop-place l =
    (streams : List Stream) → IsGreatest l.greatest streams → settings_applied streams l.from l.now (drop l.place (settings_in l.part)) ≡ settings_applied streams l.from l.from (settings_in l.part)
