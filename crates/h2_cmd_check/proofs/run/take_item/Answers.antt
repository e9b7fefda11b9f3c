use Rattle.std.proofs.Common.{◌+◌, refl}
use Rattle.h2_cmd_check.specs.ItemsTaken.{seen_by}
use Rattle.h2_cmd_check.proofs.Items.{item_said, sight_with}
use Rattle.h2_cmd_check.proofs.run.take_item.Goals as goal

pub returns-clause-takes : goal.returns-clause-takes
returns-clause-takes c =
    let took = rw c.in-Some.is at c.in_ok-taken.ensures.ok in
    let report = rw c.in-Some.is at c.in_ok-taken.ensures.report in
    let said = item_said c.args.conn.now.state c.args.octets.now took.event c.take_and_lend.new.self.state c.in-Some.taken.used c.in-Some.taken took.comes report in
    record {
      event = took.event;
      comes = took.comes;
      state = said.state;
      sight = sight_with c.args.conn.now.state (seen_by c.args.seen.now) took.event (c.args.seen.now.items + 1) c.take_and_lend.new.out.items _ _ _ refl took.sent c.cause_or-seen.ensures said.cause said.ignored;
    }
