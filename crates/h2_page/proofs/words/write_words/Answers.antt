use Rattle.h2_page.proofs.Worded.{words-written}
use Rattle.h2_page.proofs.words.write_words.Goals as goal

pub returns : goal.returns
returns g c = λ held is.
    rw c.explained_as.ensures (words-written c.args.form c.args.conn.now.state c.args.octets.now held _ _ c.explain.result _ is c.explain.ensures.flag c.explain.ensures.gains)
