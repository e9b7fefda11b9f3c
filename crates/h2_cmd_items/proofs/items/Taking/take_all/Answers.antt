use Rattle.std.proofs.Common.{◌≡◌, ◌≤◌, ◌++◌, ℕ, List, [], drop, length, subst, sym, arith}
use Rattle.h2_spec.specs.Frames.Parse.{One}
use Rattle.h2_spec.specs.Trace.{next_event}
use Rattle.h2_cmd_items.specs.SentItems.{Along, AreSent, along_of}
use Rattle.h2_cmd_items.specs.declared.sent.Sent.{Sent}
use Rattle.h2_cmd_items.proofs.SentLaws.{sent_end, sent_next, within_next}
use Rattle.h2_cmd_items.proofs.items.Taking.take_all.Goals as goal

pub loop-used-init : goal.loop-used-init
loop-used-init c = record {
  ready = c.requires.ready;
  within = omega arith;
  sent = λ more end x.
      subst (λ (ss : List Sent). AreSent c.args.conn.now.state c.args.octets.now (length ss) 0 (along_of c.args.self.now) more end → AreSent c.args.conn.now.state c.args.octets.now 0 0 (along_of c.args.self.now) (ss ++ more) end)
      (sym c.requires.none) (λ y. y) x;
}

pub loop-used-smaller : goal.loop-used-smaller
loop-used-smaller c =
    let one = rw (c.octets_from.ensures, c.in-Some.is) at c.in_ok-used.ensures.takes in
    let s = c.loop-used.conn.state in
    let t = c.take.new.conn.state in
    let comes = subst (λ (u : ℕ). next_event s (drop c.loop-used.at c.args.octets.now) ≡ One one.explains.event t u) (sym one.used_is) one.explains.comes in
    let within = within_next s t c.args.octets.now c.loop-used.at c.in-Some.used one.explains.event c.loop-used.invariant.within comes in
    omega (arith, within.0, within.1)

pub loop-used-preserved : goal.loop-used-preserved
loop-used-preserved c =
    let one = rw (c.octets_from.ensures, c.in-Some.is) at c.in_ok-used.ensures.takes in
    let s = c.loop-used.conn.state in
    let t = c.take.new.conn.state in
    let comes = subst (λ (u : ℕ). next_event s (drop c.loop-used.at c.args.octets.now) ≡ One one.explains.event t u) (sym one.used_is) one.explains.comes in
    let within = within_next s t c.args.octets.now c.loop-used.at c.in-Some.used one.explains.event c.loop-used.invariant.within comes in
    record {
      ready = c.take.ensures.ready;
      within = within.1;
      sent = sent_next c.args.conn.now.state s c.args.octets.now c.loop-used.at c.loop-used.self.sent.items (along_of c.args.self.now) (along_of c.loop-used.self) c.take.new.conn c.take.new.self.sent.items
          (along_of c.take.new.self) c.in-Some.used one c.loop-used.invariant.sent;
    }

pub returns-in-None : goal.returns-in-None
returns-in-None c =
    let none = rw (c.octets_from.ensures, c.in-None.is) at c.in_ok-used.ensures.takes in
    sent_end c.args.conn.now.state c.loop-used.conn.state c.args.octets.now c.loop-used.at c.loop-used.self.sent.items (along_of c.args.self.now) (along_of c.loop-used.self) c.take.new.self.sent.items
    (along_of c.take.new.self) c.loop-used.invariant.sent none.0 none.1 none.2
