use Rattle.std.proofs.Common.{◌∙◌, ◌-◌, length, sym}
use Rattle.h2_cmd_dialogue.proofs.CauseLaws.{cause-end, cause-init, cause-next, cause-none}
use Rattle.h2_cmd_dialogue.proofs.cause.last_cause.Goals as goal

pub loop-item-preserved : goal.loop-item-preserved
loop-item-preserved c =
    let took = rw c.in-Some.is at c.in_ok-taken.ensures.ok in
    let report = rw c.in-Some.is at c.in_ok-taken.ensures.report in
    record {
      ready = c.take_and_lend.ensures.ready;
      cause = cause-next c.loop-item.conn.state c.take_and_lend.new.self.state (length c.args.octets.now) c.loop-item._item c.loop-item.rest.now c.behind-rest.result.now c.loop-item.cause took.event c.in-Some.taken
          c.loop-item-test.true took.comes report c.behind-rest.ensures
          ∙ c.loop-item.invariant.cause;
    }

pub returns-in_default-2 : goal.returns-in_default-2
returns-in_default-2 c =
    let none = rw c.in_default-2.is at c.in_ok-taken.ensures.ok in
    sym (cause-none c.loop-item.conn.state (length c.args.octets.now - c.loop-item._item) c.loop-item.rest.now c.loop-item.cause none.none) ∙ c.loop-item.invariant.cause

pub loop-item-init : goal.loop-item-init
loop-item-init c = let new = cause-init c.in-Ok.conn _ c.args.octets.now c.in-Ok.ensures in record { ready = new.0; cause = new.1 }

pub returns : goal.returns
returns c =
    sym (cause-end c.loop-item.conn.state (length c.args.octets.now) c.loop-item._item c.loop-item.rest.now c.loop-item.cause c.loop-item-test.false)
    ∙ c.loop-item.invariant.cause
