use Rattle.std.proofs.Common.{◌≡◌, ◌∙◌, ◌++◌}
use Rattle.h2_cmd_check.specs.ItemsTaken.{seen_by}
use Rattle.h2_cmd_check.proofs.Feeds.{rest_fed, seen_fed, state_fed}
use Rattle.h2_cmd_check.proofs.walk.Walk.feed.Goals as goal

pub returns-in-Ok-take_items-clause-walks : goal.returns-in-Ok-take_items-clause-walks
returns-in-Ok-take_items-clause-walks c = λ start is.
    let w = c.args.self.now in
    let more = c.args.more.now in
    let items : c.extend_from_slice.new.self.items ≡ w.octets.items ++ more = c.in-Ok.ensures.items in
    let slice : c.as_slice.result.now ≡ w.octets.items ++ more = c.as_slice.ensures.value ∙ items in
    record {
      within = (c.in-Ok-take_items.ensures.few, rw c.as_slice.ensures.value at c.in-Ok-take_items.ensures.within);
      ready = c.take_items.ensures.ready;
      state = rw items (state_fed start.state c.args.conn.now.state c.take_items.new.conn.state w.octets.items more w.at is.within.1 is.state is.rest (rw slice at c.in-Ok-take_items.ensures.state));
      rest = rw items (rest_fed start.state c.args.conn.now.state w.octets.items more w.at _ is.within.1 is.state is.rest (rw slice at c.in-Ok-take_items.ensures.rest));
      seen = rw items (seen_fed start.state c.args.conn.now.state start.sent w.octets.items more w.at (seen_by w.seen) (seen_by c.take_items.new.seen) is.within.1 is.state is.rest is.seen (rw slice at c.in-Ok-take_items.ensures.seen));
    }
