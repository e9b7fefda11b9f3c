use Rattle.std.proofs.Common.{◌<◌, ◌≤◌, ℕ, ◌^◌, ◌*◌, ◌≡◌, ◌∙◌, sym, ap, arith}
use Rattle.h2_prim.proofs.integer.read_groups.Goals as goal
use Rattle.h2_prim.proofs.Groups.{weight_small, weight_more, part_small, carry, groups_at-last, groups_at-more}

-- the weight of a group before the last one
weight_fits : (i w : ℕ) → i < 5 → w ≡ 128 ^ i → w ≤ 268435456
weight_fits i w h e = rw e (weight_small i h)

pub overflow_mul-result : goal.overflow_mul-result
overflow_mul-result c =
    let weight = weight_fits c.loop-i.i c.loop-i.weight (omega arith) c.loop-i.invariant.weight in
    let small : c.from.result ≤ 127 = omega (arith, c.from.ensures, c.if-octet-lt128.true) in
    omega (arith, weight, part_small c.from.result c.loop-i.weight small)

pub overflow_add-result : goal.overflow_add-result
overflow_add-result c =
    let weight = weight_fits c.loop-i.i c.loop-i.weight (omega arith) c.loop-i.invariant.weight in
    let small : c.from.result ≤ 127 = omega (arith, c.from.ensures, c.if-octet-lt128.true) in
    omega (arith, weight, carry c.loop-i.value c.from.result c.loop-i.weight c.loop-i.invariant.value small)

pub returns-then-octet-lt128-clause-value : goal.returns-then-octet-lt128-clause-value
returns-then-octet-lt128-clause-value c =
    let below : c.loop-i.i < 5 = omega arith in
    rw c.from.ensures (sym (c.loop-i.invariant.rest ∙ groups_at-last c.args.octets.now c.loop-i.value c.loop-i.weight c.loop-i.i c.loop-i-test.true below c.if-octet-lt128.true))

pub returns-then-octet-lt128-clause-small : goal.returns-then-octet-lt128-clause-small
returns-then-octet-lt128-clause-small c =
    let weight = weight_fits c.loop-i.i c.loop-i.weight (omega arith) c.loop-i.invariant.weight in
    let small : c.from.result ≤ 127 = omega (arith, c.from.ensures, c.if-octet-lt128.true) in
    omega (arith, weight, carry c.loop-i.value c.from.result c.loop-i.weight c.loop-i.invariant.value small)

pub overflow_mul-value : goal.overflow_mul-value
overflow_mul-value c =
    let weight = weight_fits c.loop-i.i c.loop-i.weight (omega arith) c.loop-i.invariant.weight in
    let small : c.from-in-loop-i.result ≤ 127 = omega (arith, c.from-in-loop-i.ensures) in
    omega (arith, weight, part_small c.from-in-loop-i.result c.loop-i.weight small)

pub overflow_add-value : goal.overflow_add-value
overflow_add-value c =
    let weight = weight_fits c.loop-i.i c.loop-i.weight (omega arith) c.loop-i.invariant.weight in
    let small : c.from-in-loop-i.result ≤ 127 = omega (arith, c.from-in-loop-i.ensures) in
    omega (arith, weight, carry c.loop-i.value c.from-in-loop-i.result c.loop-i.weight c.loop-i.invariant.value small)

pub overflow_mul-weight : goal.overflow_mul-weight
overflow_mul-weight c =
    let weight = weight_fits c.loop-i.i c.loop-i.weight (omega arith) c.loop-i.invariant.weight in
    omega (arith, weight)

pub loop-i-preserved : goal.loop-i-preserved
loop-i-preserved c =
    let below : c.loop-i.i < 5 = omega arith in
    let small : c.from-in-loop-i.result ≤ 127 = omega (arith, c.from-in-loop-i.ensures) in
    record {
      within = omega arith;
      weight = ap (λ w. w * 128) c.loop-i.invariant.weight ∙ weight_more c.loop-i.i;
      value = carry c.loop-i.value c.from-in-loop-i.result c.loop-i.weight c.loop-i.invariant.value small;
      rest = rw c.from-in-loop-i.ensures (c.loop-i.invariant.rest ∙ groups_at-more c.args.octets.now c.loop-i.value c.loop-i.weight c.loop-i.i c.loop-i-test.true below c.if-octet-lt128.false);
    }
