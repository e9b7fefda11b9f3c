use Rattle.std.proofs.Common.{◌∙◌, ap, append_assoc}
use Rattle.std.proofs.lemmas.Result.{IfOk-weaker}
use Rattle.std.proofs.Math.Seq.{take-append_seam}
use Rattle.h2_spec.specs.Texts.View.{view}
use Rattle.h2_conn.specs.Connection.{Connection}
use Rattle.h2_conn.proofs.GrantedLaws.{shown-within}
use Rattle.h2_conn.proofs.play.play.Goals as goal

pub returns-clause-ok : goal.returns-clause-ok
returns-clause-ok g c =
    let opened = c.in_ok-conn.ensures.ok in
    IfOk-weaker c.view_or_cut.result _ _
    (λ shown x. record { sent = x.1 ∙ opened.sent; shown_is = x.0 ∙ ap (λ (d : Connection). view d.state) opened.after }) c.view_or_cut.ensures.ok

pub returns-clause-grants : goal.returns-clause-grants
returns-clause-grants g c =
    let a = c.args in
    shown-within c.view_or_cut.result _ a.book.now a.config a.octets.now (g.O.Outgoing.octets a.out.now) (g.O.Outgoing.octets c.open_and_feed.new.out) (g.O.Outgoing.octets c.view_or_cut.new.out) c.view_or_cut.ensures.ok c.in_ok-conn.ensures.grants

pub returns-clause-unchanged : goal.returns-clause-unchanged
returns-clause-unchanged g c = rw (c.len-length.ensures, c.in_ok-conn.ensures.ok.sent, append_assoc, take-append_seam) at c.view_or_cut.ensures.cut
