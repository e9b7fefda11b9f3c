use Rattle.std.proofs.Common.{◌≡◌, List, length}
use Rattle.h2_spec.specs.Frames.Frame.{Frame, frames_octets}
use Rattle.h2_spec.specs.Does.{AreShort}
use Rattle.h2_debug.proofs.BreakLaws.{Left}
use Rattle.h2_debug.proofs.breakpoints.sends.Given as goal

abbrev pub invariant-loop-found : goal.invariant-loop-found
invariant-loop-found l = (frames : List Frame) → l.octets ≡ frames_octets frames → AreShort frames → Left frames l.kind l.rest

abbrev pub decreases-loop-found : goal.decreases-loop-found
decreases-loop-found l = length l.rest
