use Rattle.std.proofs.Common.{◌≡◌, ◌∙◌, ℕ, List, ap, refl, take, drop, length}
use Rattle.h2_serve.specs.Wires.{grown}
use Rattle.h2_serve.proofs.Growing.{front-take, writes-more, writes-none}
use Rattle.h2_serve.proofs.driving.outgoing.write_outbox.Goals as goal

pub loop-out-init : goal.loop-out-init
loop-out-init g c = record {
  written = writes-none (g.S.Wire.octets_written c.args.wire.now) c.args.out.now;
  read = refl;
  lengths = refl;
  flag = c.requires;
}

pub loop-out-preserved : goal.loop-out-preserved
loop-out-preserved g c =
    let kept = c.loop-out.invariant in
    let n = c.in_ok-count.count in
    let first : c.front.result.now ≡ take (length c.front.result.now) c.loop-out.out = c.front.ensures.first ∙ ap (take (length c.front.result.now)) c.gather.ensures in
    let here = front-take n c.front.result.now c.loop-out.out first c.in_ok-count.ensures.bound.1 in
    let rest : c.remove_front.new.self ≡ drop n c.loop-out.out = c.remove_front.ensures ∙ ap (drop n) c.gather.ensures in
    record {
      written = writes-more _ _ _ _ n _ _ kept.written (c.in_ok-count.ensures.octets ∙ ap (λ (xs : List ℕ). grown (g.S.Wire.octets_written c.loop-out.wire) xs) here) rest;
      read = c.in_ok-count.ensures.read.0 ∙ kept.read;
      lengths = c.in_ok-count.ensures.read.1 ∙ kept.lengths;
      flag = c.in_ok-count.ensures.flag;
    }

pub returns-in_err-count-clause-written : goal.returns-in_err-count-clause-written
returns-in_err-count-clause-written g c = rw (c.in_err-count.ensures.err, c.gather.ensures) c.loop-out.invariant.written
