use Rattle.h2_conn_send.proofs.pieces.allowance_octets.Goals as goal

pub returns : goal.returns
returns c = c.octets_at.ensures
