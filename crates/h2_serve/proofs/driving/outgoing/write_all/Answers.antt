use Rattle.std.proofs.Common.{◌≡◌, ◌∙◌, arith, ap, refl, sym, drop, length, length-drop}
use Rattle.h2_serve.proofs.Growing.{grown-nil, grown-take, writes-all, writes-first}
use Rattle.h2_serve.proofs.driving.outgoing.write_all.Goals as goal

pub loop-done-preserved : goal.loop-done-preserved
loop-done-preserved g c =
    let kept = c.loop-done.invariant in
    let slice : c.octets_from.result.now ≡ drop c.loop-done.done c.loop-done.out.items =
    rw (c.octets_from.ensures, c.as_slice.ensures.value) refl in
    let now : c.octets_from.result.now ≡ drop c.loop-done.done c.args.out.now.items = rw (slice, kept.out) refl in
    let size : length c.octets_from.result.now ≡ length (drop c.loop-done.done c.loop-done.out.items) =
    ap length slice in
    record {
      within = omega (arith, c.in-Ok.ensures.bound, length-drop c.loop-done.done c.loop-done.out.items);
      out = kept.out;
      written = c.in-Ok.ensures.octets ∙ rw (kept.written, now) (grown-take _ _ c.loop-done.done c.in-Ok.count);
      read = c.in-Ok.ensures.read.0 ∙ kept.read;
      lengths = c.in-Ok.ensures.read.1 ∙ kept.lengths;
      flag = c.in-Ok.ensures.flag;
    }

pub loop-done-init : goal.loop-done-init
loop-done-init g c = record {
  within = omega arith;
  out = refl;
  written = sym (grown-nil (g.S.Wire.octets_written c.args.wire.now));
  read = refl;
  lengths = refl;
  flag = c.requires;
}

pub loop-done-smaller : goal.loop-done-smaller
loop-done-smaller g c =
    let size = ap length (c.octets_from.ensures ∙ ap (drop c.loop-done.done) c.as_slice.ensures.value) ∙ length-drop c.loop-done.done c.loop-done.out.items in
    omega (arith, c.in-Ok.ensures.bound, size)

pub write-requires : goal.write-requires
write-requires g c =
    let size = ap length (c.octets_from.ensures ∙ ap (drop c.loop-done.done) c.as_slice.ensures.value) ∙ length-drop c.loop-done.done c.loop-done.out.items in
    omega (arith, c.loop-done-test.true, c.len.ensures, size)

pub overflow_add-done : goal.overflow_add-done
overflow_add-done g c =
    let size = ap length (c.octets_from.ensures ∙ ap (drop c.loop-done.done) c.as_slice.ensures.value) ∙ length-drop c.loop-done.done c.loop-done.out.items in
    omega (arith, c.in-Ok.ensures.bound, c.loop-done-test.true, c.len.ensures, c.len.type_inv, size)

pub returns-clause-written : goal.returns-clause-written
returns-clause-written g c =
    let kept = c.loop-done.invariant in
    writes-all _ _ c.loop-done.done _ _ kept.written (omega (arith, c.len.ensures, c.loop-done-test.false, ap length kept.out)) c.clear.ensures.items

pub returns-in-Err-clause-written : goal.returns-in-Err-clause-written
returns-in-Err-clause-written g c =
    let kept = c.loop-done.invariant in
    writes-first _ _ c.loop-done.done _ _ (c.in-Err.ensures.err ∙ kept.written) (c.remove_front.ensures ∙ ap (drop c.loop-done.done) kept.out)

pub returns-in-Err-clause-err : goal.returns-in-Err-clause-err
returns-in-Err-clause-err g c =
    omega (arith, ap length c.remove_front.ensures, length-drop c.loop-done.done c.loop-done.out.items, c.loop-done-test.true, c.len.ensures)

pub remove_front-requires : goal.remove_front-requires
remove_front-requires g c = c.loop-done.invariant.within
