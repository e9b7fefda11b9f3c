use Rattle.h2_conn_view.specs.Lines.{window_text}
use Rattle.h2_conn_view.proofs.lines.WindowLineText.write_to.Goals as goal

pub returns-clause-octets : goal.returns-clause-octets
unfolding window_text
returns-clause-octets g c =
    rw (← c.window_number-recv.ensures, ← c.window_number-send.ensures, ← c.owed.ensures, ← c.from.ensures) c.write_to.ensures.octets
