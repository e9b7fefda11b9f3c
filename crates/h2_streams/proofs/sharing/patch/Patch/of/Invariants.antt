use Rattle.std.proofs.Common.{◌≡◌, map, take}
use Rattle.h2_streams.specs.Patches.{patched}
use Rattle.h2_streams.specs.Sends.{without_send}
use Rattle.h2_streams.proofs.sharing.patch.Patch.of.Given as goal

abbrev pub invariant-loop-stream : goal.invariant-loop-stream
invariant-loop-stream g l = patched l.base l.patch.steps.items l.patch.last ≡ map without_send (take l.stream-index l.streams)
