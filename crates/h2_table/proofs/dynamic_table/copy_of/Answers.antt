use Rattle.std.proofs.Common.{arith, ◌≡◌, ◌<◌, ◌∙◌, refl, length, sym, None, slice_get}
use Rattle.std.proofs.lemmas.List.{length_push, take_all}
use Rattle.std.proofs.lemmas.Result.{IfOk-from_err}
use Rattle.circular_buffer.specs.Buffer.{buffer}
use Rattle.h2_hpack_list.proofs.ListParts.{some-at}
use Rattle.h2_table.proofs.Copied.{copied_more}
use Rattle.h2_table.proofs.dynamic_table.copy_of.Goals as goal
use Rattle.h2_table.proofs.dynamic_table.copy_of.Goals.{in-Some+in_ok-entry, in_default}

pub loop-i-preserved : goal.loop-i-preserved
loop-i-preserved g c =
    let xs = c.args.ring.now.items in
    let inside : c.loop-i.i < length xs = omega arith in
    elim c.match-get.branch [
      | in-Some+in_ok-entry w ↦
          rw w.copy-is (rw w.put_oldest.ensures (record {
            same = copied_more xs c.loop-i.copy.items c.loop-i.i w.in-Some.entry.now w.in_ok-entry.entry c.loop-i.invariant.same inside (sym w.in-Some.ensures) w.in_ok-entry.ensures.same;
            count = omega (arith, length_push c.loop-i.copy.items w.in_ok-entry.entry);
            places = c.loop-i.invariant.places;
          }))
      | in_default w ↦
          let none : None ≡ slice_get xs c.loop-i.i = w.in_default.ensures in
          absurd (some-at xs c.loop-i.i inside none)
    ]

pub returns-in_err-copy : goal.returns-in_err-copy
returns-in_err-copy g c = IfOk-from_err c.from_residual.result _ c.from_residual.ensures.0

pub loop-i-init : goal.loop-i-init
loop-i-init g c = rw c.in_ok-copy.ensures (record { same = refl; count = refl; places = c.capacity.ensures.capacity })

pub returns-in_err-entry : goal.returns-in_err-entry
returns-in_err-entry g c = IfOk-from_err c.from_residual-in_err-entry.result _ c.from_residual-in_err-entry.ensures.0

pub put_oldest-requires : goal.put_oldest-requires
put_oldest-requires g c = omega (arith, c.loop-i.invariant.count, c.loop-i.invariant.places, c.loop-i-test.true, c.len-i-end.ensures.len, c.len-i-end.ensures.within)

pub returns : goal.returns
returns g c =
    let xs = c.args.ring.now.items in
    let items = c.loop-i.invariant.same ∙ take_all c.loop-i.i xs (omega (arith, c.loop-i-test.false, c.len-i-end.ensures.len)) in
    λ k. buffer (items k) (c.loop-i.invariant.places k)
