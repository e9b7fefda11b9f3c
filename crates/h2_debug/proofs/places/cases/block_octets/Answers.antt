use Rattle.std.proofs.Common.{◌<◌, arith}
use Rattle.h2_debug.specs.Places.{end}
use Rattle.h2_debug.proofs.CaseLaws.{block-step}
use Rattle.h2_debug.proofs.PlaceLaws.{advances-more}
use Rattle.h2_debug.proofs.places.cases.block_octets.Goals as goal

pub loop-place-preserved : goal.loop-place-preserved
loop-place-preserved g c =
    let r = c.args.source.now in
    let more : c.loop-place.place.position < end r = omega (arith, c.position.ensures, c.loop-place-test.true, c.requires.within) in
    let moved = advances-more r c.loop-place.place c.advance.new.self _ c.in_ok-advance.ensures.advances more in
    let step = rw (c.conn.ensures, c.octets_from-octets.ensures.octets, c.used.ensures) at c.in_ok-add_fragment.ensures in
    record {
      at = moved.0;
      ahead = omega (arith, moved.1, c.position.ensures, c.loop-place-test.true);
      octets = block-step r c.loop-place.place c.advance.new.self _ _ _ c.loop-place.invariant.at more c.in_ok-advance.ensures.advances c.loop-place.invariant.octets step;
    }
