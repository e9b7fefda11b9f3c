use Rattle.h2_conn_view.proofs.Texts.{viewed-lines}
use Rattle.h2_conn_view.proofs.show.ShownText.write_to.Goals as goal

pub returns-clause-octets : goal.returns-clause-octets
returns-clause-octets g c =
    let written = rw (c.is_due.ensures, c.len.ensures, c.size.ensures.sum, c.max.ensures.is) at c.write_to.ensures.octets in
    rw (← viewed-lines c.args.self.now, ← c.self.view_is) written
