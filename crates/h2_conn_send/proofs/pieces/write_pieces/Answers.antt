use Rattle.std.proofs.Common.{◌∙◌, rules}
use Rattle.h2_conn_send.proofs.KeptLaws.{kept-either, kept-then}
use Rattle.h2_conn_send.proofs.PiecesLaws.{octets_last}
use Rattle.h2_conn_send.proofs.pieces.write_pieces.Goals as goal

pub returns : goal.returns
returns g c =
    let a = c.args in
    let last = octets_last a.id a.ends a.size c.loop-at.at a.octets.now c.loop-at.invariant.within c.loop-at-test.false in
    record {
      ok = rw (c.octets_from.ensures, c.end_flag.ensures, ← last, c.loop-at.invariant.left) at c.lend_frame.ensures.ok;
      kept = kept-then (g.O.Outgoing.octets a.out.now) (g.O.Outgoing.octets c.loop-at.out) (g.O.Outgoing.octets c.lend_frame.new.out) c.loop-at.invariant.kept
          (kept-either c.lend_frame.result (g.O.Outgoing.octets c.loop-at.out) (g.O.Outgoing.octets c.lend_frame.new.out) _ c.lend_frame.ensures.ok c.lend_frame.ensures.no_memory);
    }

pub returns-in_err-at : goal.returns-in_err-at
returns-in_err-at g c = record {
  ok = search rules;
  kept = kept-then (g.O.Outgoing.octets c.args.out.now) (g.O.Outgoing.octets c.loop-at.out) (g.O.Outgoing.octets c.write_piece.new.out) c.loop-at.invariant.kept c.write_piece.ensures.kept;
}

pub loop-at-preserved : goal.loop-at-preserved
loop-at-preserved g c = record {
  within = c.in_ok-at.ensures.at.1;
  kept = kept-then (g.O.Outgoing.octets c.args.out.now) (g.O.Outgoing.octets c.loop-at.out) (g.O.Outgoing.octets c.write_piece.new.out) c.loop-at.invariant.kept c.write_piece.ensures.kept;
  left = c.in_ok-at.ensures.ok ∙ c.loop-at.invariant.left;
}
