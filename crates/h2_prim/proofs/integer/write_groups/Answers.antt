use Rattle.std.proofs.Common.{arith, refl, ◌∙◌, ◌++◌}
use Rattle.std.specs.Vec.{vec_len, vec_capacity}
use Rattle.h2_spec.specs.Hpack.Integer.{groups_of}
use Rattle.h2_prim.proofs.Groups.{one_group, last_group}
use Rattle.h2_prim.proofs.integer.write_groups.Goals as goal

pub loop-value-init : goal.loop-value-init
loop-value-init g c = record { enough = 4; small = omega arith; fits = omega arith; same = refl }

pub loop-value-preserved : goal.loop-value-preserved
loop-value-preserved g c =
    let l = c.loop-value in
    let all = c.args.out.now.items ++ groups_of 5 c.args.value in
    let p = c.push_reserved in
    let left = one_group l.out.items p.new.self.items all (vec_len l.out) (vec_len p.new.self) (vec_capacity l.out) l.value c.loop-value-test.true p.ensures.len p.ensures.items l.invariant in
    rw p.ensures.capacity left

pub returns : goal.returns
returns g c =
    let l = c.loop-value in
    let all = c.args.out.now.items ++ groups_of 5 c.args.value in
    c.push_reserved-2.ensures.items ∙ last_group l.out.items all (vec_len l.out) (vec_capacity l.out) l.value c.loop-value-test.false l.invariant
