use Rattle.h2_explain_words.proofs.Along.{spelled-along}
use Rattle.h2_explain_words.proofs.laws.fields_are_spelled_in_their_order.Goals as goal

pub returns : goal.returns
returns c = spelled-along
