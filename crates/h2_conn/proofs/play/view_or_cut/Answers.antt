use Rattle.h2_conn.proofs.play.view_or_cut.Goals as goal

pub returns-in-Err-clause-cut : goal.returns-in-Err-clause-cut
returns-in-Err-clause-cut g c = c.keep_first.ensures
