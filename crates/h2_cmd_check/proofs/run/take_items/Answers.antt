use Rattle.std.proofs.Common.{◌≡◌, ◌∙◌, ◌+◌, ap, arith, sym}
use Rattle.h2_cmd_check.specs.ItemsTaken.{Sight, seen_by}
use Rattle.h2_cmd_check.proofs.TextLaws.{within_next}
use Rattle.h2_cmd_check.proofs.Items.{rest_end, rest_next, seen_end, seen_next, state_end, state_next}
use Rattle.h2_cmd_check.proofs.run.take_items.Goals as goal

pub overflow_add-at : goal.overflow_add-at
overflow_add-at c =
    let item = rw (c.octets_from.ensures, c.in-Some.is) at c.in_ok-used.ensures.takes in
    let within = within_next c.loop-used.conn.state c.take_item.new.conn.state c.args.octets.now c.loop-used.at c.in-Some.used item.event c.loop-used.invariant.within item.comes in
    omega (arith, within.1)

pub loop-used-smaller : goal.loop-used-smaller
loop-used-smaller c =
    let item = rw (c.octets_from.ensures, c.in-Some.is) at c.in_ok-used.ensures.takes in
    let within = within_next c.loop-used.conn.state c.take_item.new.conn.state c.args.octets.now c.loop-used.at c.in-Some.used item.event c.loop-used.invariant.within item.comes in
    omega (arith, within.0, within.1)

pub loop-used-preserved : goal.loop-used-preserved
loop-used-preserved c =
    let item = rw (c.octets_from.ensures, c.in-Some.is) at c.in_ok-used.ensures.takes in
    let s = c.loop-used.conn.state in
    let t = c.take_item.new.conn.state in
    let within = within_next s t c.args.octets.now c.loop-used.at c.in-Some.used item.event c.loop-used.invariant.within item.comes in
    let more : c.take_item.new.seen.items ≡ c.loop-used.seen.items + 1 = ap (λ (x : Sight). x.items) item.sight in
    record {
      few = omega (arith, c.loop-used.invariant.few, within.0, more);
      within = within.1;
      ready = c.take_item.ensures.ready;
      state = c.loop-used.invariant.state ∙ state_next s t c.args.octets.now c.loop-used.at c.in-Some.used item.event item.comes;
      rest = c.loop-used.invariant.rest ∙ rest_next s t c.args.octets.now c.loop-used.at c.in-Some.used item.event item.comes;
      seen = c.loop-used.invariant.seen
          ∙ seen_next s t c.args.octets.now c.loop-used.at c.in-Some.used item.event (seen_by c.loop-used.seen) (seen_by c.take_item.new.seen) item.comes item.state item.sight;
    }

pub returns-in-None : goal.returns-in-None
returns-in-None c =
    let none = rw (c.octets_from.ensures, c.in-None.is) at c.in_ok-used.ensures.takes in
    let same : c.take_item.new.seen.items ≡ c.loop-used.seen.items = ap (λ (x : Sight). x.items) none.sight in
    record {
      ready = c.take_item.ensures.ready;
      few = omega (arith, c.loop-used.invariant.few, same);
      within = c.loop-used.invariant.within;
      state = c.loop-used.invariant.state ∙ state_end _ _ none.none ∙ sym none.same;
      rest = c.loop-used.invariant.rest ∙ rest_end _ _ none.none;
      seen = none.sight ∙ sym (c.loop-used.invariant.seen ∙ seen_end _ _ _ none.none);
    }
