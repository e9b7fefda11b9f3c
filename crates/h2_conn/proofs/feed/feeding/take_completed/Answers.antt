use Rattle.std.proofs.Common.{rules, ◌∙◌, drop, subst, sym}
use Rattle.h2_spec.specs.Frames.Frame.{WholeFrame}
use Rattle.h2_frame.specs.Items.{with_more}
use Rattle.h2_frame.specs.Rest.{Rest}
use Rattle.h2_conn.specs.Connection.{Fits}
use Rattle.h2_conn.specs.Runs.{Takes}
use Rattle.h2_conn.proofs.FeedingLaws.{fits-more}
use Rattle.h2_conn.proofs.Items.{item-fits, item-taken}
use Rattle.h2_conn.proofs.PlainDataLaws.{forgotten}
use Rattle.h2_conn.proofs.feed.feeding.take_completed.Goals as goal

pub returns-clause-ok : goal.returns-clause-ok
returns-clause-ok g c =
    let s = c.args.state.now in
    let r = with_more c.args.splitter.now c.args.octets.now in
    let d = c.requires.completed in
    let item = WholeFrame c.args.head.now (drop 9 r.octets) in
    let out = (g.O.Outgoing.octets c.args.out.now) in
    let out' = (g.O.Outgoing.octets c.on_plain_data.new.out) in
    let takes = item-taken r s c.on_plain_data.new.self item out out' (fits-more s.core.phase c.args.splitter.now c.args.octets.now c.requires.fits) c.requires.goes (sym d.is) (c.in_ok-on_plain_data.ensures.ok (drop 9 r.octets) d.count) in
    subst (λ (left : Rest). Takes s r.octets out c.on_plain_data.new.self left.octets out') (d.rest ∙ sym (c.forget_frame.ensures ∙ forgotten c.args.splitter.now d.going d.past)) takes

pub returns-clause-fits : goal.returns-clause-fits
returns-clause-fits g c =
    let s = c.args.state.now in
    let r = with_more c.args.splitter.now c.args.octets.now in
    let d = c.requires.completed in
    let item = WholeFrame c.args.head.now (drop 9 r.octets) in
    let fits = item-fits r s c.on_plain_data.new.self item (g.O.Outgoing.octets c.args.out.now) (g.O.Outgoing.octets c.on_plain_data.new.out) (fits-more s.core.phase c.args.splitter.now c.args.octets.now c.requires.fits) c.requires.goes (sym d.is) (c.in_ok-on_plain_data.ensures.ok (drop 9 r.octets) d.count) in
    subst (λ (left : Rest). Fits left c.on_plain_data.new.self.core.phase) (d.rest ∙ sym (c.forget_frame.ensures ∙ forgotten c.args.splitter.now d.going d.past)) fits

pub on_plain_data-requires : goal.on_plain_data-requires
on_plain_data-requires g c = λ k. (search rules, (c.requires.completed.kind, c.requires.completed.unpadded))
