use Rattle.std.proofs.Common.{◌≡◌, ◌+◌, ◌||◌, Bool, ap, arith}
use Rattle.h2_debug.proofs.CaseLaws.{ended-step}
use Rattle.h2_debug.proofs.places.cases.is_ended_by.Goals as goal

pub loop-place-preserved : goal.loop-place-preserved
loop-place-preserved g c =
    let next : c.advance_seeing.new.place.position ≡ c.loop-place.place.position + 1 = c.in_ok-head.ensures.position in
    let left = rw (c.stream-before.ensures, c.conn.ensures, c.stream-after.ensures, c.conn-in-loop-place-2.ensures, c.ends_side.ensures, c.open_block-block.ensures, c.conn-in-loop-place.ensures, c.in_ok-head.ensures.head) at c.leaves_ended-ended.ensures in
    record {
      at = c.in_ok-head.ensures.at;
      ahead = omega (arith, next, c.position.ensures, c.loop-place-test.true);
      ended = ended-step c.args.source.now c.args.stream c.loop-place.place c.advance_seeing.new.place c.loop-place.ended _ c.loop-place.invariant.at c.in_ok-head.ensures.at next c.loop-place.invariant.ended
          (ap (λ (b : Bool). c.loop-place.ended || b) left);
    }
