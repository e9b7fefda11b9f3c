use Rattle.std.proofs.Common.{◌∙◌, ap}
use Rattle.h2_spec.specs.declared.connection.ConnectionState.{ConnectionState}
use Rattle.h2_explain_step.specs.Explained.{moment_of, stream_ahead}
use Rattle.h2_explain_step.proofs.Taken.{item-explained}
use Rattle.h2_explain_step.proofs.taking.take_item.Goals as goal

pub returns-clause-takes : goal.returns-clause-takes
returns-clause-takes g c = rw c.in-Some.is at c.in_ok-taken.ensures.ok

pub returns-clause-item : goal.returns-clause-item
returns-clause-item g c =
    let takes = rw c.in-Some.is at c.in_ok-taken.ensures.ok in
    let taken = rw c.in-Some.is at c.in_ok-taken.ensures.report in
    let stream = c.stream_ahead-stream.ensures ∙ ap (λ (core : ConnectionState). stream_ahead core.phase c.args.octets.now) c.counts.ensures in
    let before = c.moment_at-before.ensures ∙ ap (moment_of c.args.conn.now.state) stream in
    let after = c.moment_at.ensures ∙ ap (moment_of c.take_and_lend.new.self.state) stream in
    λ number offset x is. item-explained c.args.conn.now.state c.args.octets.now (g.O.Outgoing.octets c.args.out.now) (g.O.Outgoing.octets c.take_and_lend.new.out) number offset c.take_and_lend.new.self _ x
    c.take_and_lend.ensures.ready takes taken before after is
