use Rattle.std.proofs.Common.{arith, refl, ap, ◌∙◌, ◌-◌, length, sym}
use Rattle.std.proofs.lemmas.List.{take-take, take_all, length-take-le}
use Rattle.circular_buffer.specs.Buffer.{buffer}
use Rattle.h2_table.proofs.Popped.{last-none}
use Rattle.h2_table.proofs.edit.evict_from.Goals as goal

pub loop-ring-init : goal.loop-ring-init
loop-ring-init g c = record { same = refl; places = refl }

pub loop-ring-smaller : goal.loop-ring-smaller
loop-ring-smaller g c =
    let items = c.loop-ring.ring.items in
    let less = ap (λ b. length b.items) c.in-Some.ensures.items ∙ length-take-le (length items - 1) items (omega arith) in
    omega (arith, less, c.loop-ring-test.true, c.len.ensures.len)

pub loop-ring-preserved : goal.loop-ring-preserved
loop-ring-preserved g c =
    let items = c.loop-ring.ring.items in
    rw c.in-Some.ensures.items (record {
      same = take-take c.args.kept (length items - 1) items (omega (arith, c.loop-ring-test.true, c.len.ensures.len)) ∙ c.loop-ring.invariant.same;
      places = c.loop-ring.invariant.places;
    })

pub returns-in-None : goal.returns-in-None
returns-in-None g c = absurd (omega (arith, ap length (last-none c.loop-ring.ring.items c.in-None.ensures.value), c.loop-ring-test.true, c.len.ensures.len))

pub returns : goal.returns
returns g c =
    let all = sym (take_all c.args.kept c.loop-ring.ring.items (omega (arith, c.loop-ring-test.false, c.len.ensures.len))) ∙ c.loop-ring.invariant.same in
    λ k. buffer (all k) (c.loop-ring.invariant.places k)
