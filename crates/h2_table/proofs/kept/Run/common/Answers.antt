use Rattle.std.proofs.Common.{◌≡◌, ◌<◌, length, drop, ap, ◌∙◌, sym, arith, length-take-le}
use Rattle.h2_hpack_list.proofs.ListParts.{get-rest, same-next}
use Rattle.h2_table.proofs.kept.Run.common.Goals as goal

pub loop-place-preserved : goal.loop-place-preserved
loop-place-preserved g c =
    let run = c.self.inside in
    let entries = c.args.ring.now.items in
    let place = c.loop-place.place in
    let count : length c.args.self.now ≡ run.count = ap length (sym c.self.view_is) ∙ length-take-le run.count run.entries.value c.self.invariant in
    let inside : place < length c.args.self.now = omega (arith, count, c.loop-place-test.true, c.min-most.ensures) in
    let next = sym c.get.ensures ∙ c.is_same.ensures c.if-not-is_same.false ∙ c.get-in-loop-place.ensures ∙ sym (get-rest c.args.from place entries) in
    record {
      same = same-next place c.args.self.now (drop c.args.from entries) inside c.loop-place.invariant.same next;
      few = omega (arith, c.loop-place-test.true);
    }
