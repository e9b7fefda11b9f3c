use Rattle.std.proofs.Common.{ℕ, suc, ◌+◌, ◌*◌, ◌^◌, ◌<◌, ◌≤◌, arith}
use Rattle.std.proofs.Math.Nat.{pow-le-pow_right, pow-suc}
use Rattle.h2_hpack_validity.proofs.octets.number_of_digits.Goals as goal

-- at most 18 digits write a number of 64 bits
next_fits : (n i d : ℕ) → n < 10 ^ i → i < 18 → d ≤ 9 → 10 * n + d < 2 ^ 64
next_fits n i d below few digit =
    let more : 10 ^ suc i ≤ 10 ^ 18 = pow-le-pow_right {n = 10} (omega arith) few in
    omega (arith, more, pow-suc 10 i)

pub overflow_mul-number : goal.overflow_mul-number
overflow_mul-number c = omega (arith, next_fits c.loop-digit.number c.loop-digit.digit-index 0 c.loop-digit.invariant.fits (omega arith) (omega arith))

pub overflow_add-number : goal.overflow_add-number
overflow_add-number c = omega (arith, next_fits c.loop-digit.number c.loop-digit.digit-index c.from.result c.loop-digit.invariant.fits (omega arith) (omega arith))
