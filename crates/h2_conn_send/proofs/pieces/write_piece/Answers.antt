use Rattle.std.proofs.Common.{append_assoc, refl}
use Rattle.h2_conn_send.proofs.KeptLaws.{kept-more, kept-same}
use Rattle.h2_conn_send.proofs.PiecesLaws.{octets_more}
use Rattle.h2_conn_send.proofs.pieces.write_piece.Goals as goal

pub returns-clause-ok : goal.returns-clause-ok
returns-clause-ok g c =
    let a = c.args in
    let more = octets_more a.id a.ends a.size a.at a.octets.now c.requires.size.0 c.requires.more in
    rw (c.in_ok-lend_frame.ensures.ok, c.octets_at.ensures, append_assoc, ← more) refl

pub returns-in_err-lend_frame-clause-kept : goal.returns-in_err-lend_frame-clause-kept
returns-in_err-lend_frame-clause-kept g c = kept-same (g.O.Outgoing.octets c.args.out.now) (g.O.Outgoing.octets c.lend_frame.new.out) c.in_err-lend_frame.ensures.no_memory

pub returns-clause-kept : goal.returns-clause-kept
returns-clause-kept g c = kept-more (g.O.Outgoing.octets c.args.out.now) (g.O.Outgoing.octets c.lend_frame.new.out) _ c.in_ok-lend_frame.ensures.ok
