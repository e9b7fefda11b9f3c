use Rattle.std.proofs.Common.{◌∙◌, arith, refl}
use Rattle.h2_cmd_inject.specs.Views.{viewing_of}
use Rattle.h2_cmd_inject.proofs.ViewLaws.{takes-end, takes-one, takes-start, takes-within}
use Rattle.h2_cmd_inject.proofs.view.View.take_all.Goals as goal

pub loop-used-init : goal.loop-used-init
loop-used-init g c = record {
  ready = c.requires.ready;
  within = omega arith;
  opening = refl;
  on = takes-start c.args.form c.args.steps.now c.args.self.now.opening (viewing_of c.args.self.now) c.args.octets.now c.args.out.now.items;
}

pub loop-used-smaller : goal.loop-used-smaller
loop-used-smaller g c =
    let v = c.loop-used.self in
    let one = rw (c.octets_from.ensures, c.in-Some.is) at c.in_ok-used.ensures.taken in
    let within = takes-within c.args.form c.args.steps.now v.opening (viewing_of v) (viewing_of c.take.new.self) c.args.octets.now c.loop-used.at c.loop-used.out.items
    c.take.new.out.items c.in-Some.used c.loop-used.invariant.within one in
    omega (arith, within.0, within.1)

pub overflow_add-at : goal.overflow_add-at
overflow_add-at g c =
    let v = c.loop-used.self in
    let one = rw (c.octets_from.ensures, c.in-Some.is) at c.in_ok-used.ensures.taken in
    let within = takes-within c.args.form c.args.steps.now v.opening (viewing_of v) (viewing_of c.take.new.self) c.args.octets.now c.loop-used.at c.loop-used.out.items
    c.take.new.out.items c.in-Some.used c.loop-used.invariant.within one in
    omega (arith, within.1)

pub loop-used-preserved : goal.loop-used-preserved
loop-used-preserved g c =
    let v = c.loop-used.self in
    let i = c.loop-used.invariant in
    let one = rw (c.octets_from.ensures, c.in-Some.is) at c.in_ok-used.ensures.taken in
    let within = takes-within c.args.form c.args.steps.now v.opening (viewing_of v) (viewing_of c.take.new.self) c.args.octets.now c.loop-used.at c.loop-used.out.items
    c.take.new.out.items c.in-Some.used i.within one in
    record {
      ready = c.in_ok-used.ensures.ready;
      within = within.1;
      opening = c.take.ensures.opening ∙ i.opening;
      on = takes-one c.args.form c.args.steps.now c.args.self.now.opening v.opening (viewing_of c.args.self.now) (viewing_of v) (viewing_of c.take.new.self) c.args.octets.now
          c.args.out.now.items c.loop-used.at c.loop-used.out.items c.take.new.out.items c.in-Some.used i.on i.opening one;
    }

pub returns-in-None-clause-taken : goal.returns-in-None-clause-taken
returns-in-None-clause-taken g c =
    let v = c.loop-used.self in
    let none = rw (c.octets_from.ensures, c.in-None.is) at c.in_ok-used.ensures.taken in
    takes-end c.args.form c.args.steps.now c.args.self.now.opening v.opening (viewing_of c.args.self.now) (viewing_of v) (viewing_of c.take.new.self) c.args.octets.now
    c.args.out.now.items _ c.loop-used.out.items c.take.new.out.items c.loop-used.invariant.on none
