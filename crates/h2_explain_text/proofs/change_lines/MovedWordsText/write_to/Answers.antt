use Rattle.h2_explain_text.proofs.change_lines.MovedWordsText.write_to.Goals as goal

pub returns-in-Block-clause-octets : goal.returns-in-Block-clause-octets
returns-in-Block-clause-octets g c = rw c.in-Block.is (rw (c.from.ensures, c.from-in-Block.ensures) at c.write_to-in-Block.ensures.octets)
