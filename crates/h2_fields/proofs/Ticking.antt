-- How the ticks of a fragment are added to those before it.
use Rattle.std.proofs.Common.{◌≡◌, ◌≤◌, ◌<◌, ◌+◌, ◌*◌, ℕ, true, Ok, Err, OnOk, is_ok, Result, refl, arith}
use Rattle.h2_fields.specs.Rests.{IsTicked, most_ticks}
use Rattle.h2_hpack_instruction.specs.declared.fault.BlockFault.{BlockFault}

pub ticks-rise : (r : Result (Unit {0}) BlockFault) (old new piece rest after ticks left : ℕ)
    → (new < most_ticks → new ≡ old + ticks + 1) → new ≤ old + ticks + 1 → (is_ok r ≡ true → left ≡ after)
    → OnOk r (IsTicked rest piece after ticks)
    → OnOk r ((new < most_ticks → old + piece ≤ new) × (new + 2 * left ≤ old + 2 * rest + 4 * piece + 8))
ticks-rise (Ok x) old new piece rest after ticks left small most is h =
    ((λ below. let sum = small below in let each : ticks < most_ticks → piece ≤ ticks = h.0 in let few : ticks < most_ticks = omega (arith, sum, below) in omega (arith, sum, each few)), omega (arith, most, is refl, h.1, h.2))
ticks-rise (Err fault) old new piece rest after ticks left small most is h = tt
