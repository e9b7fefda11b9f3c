use Rattle.std.proofs.Common.{length, ap}
use Rattle.h2_spec.specs.Requests.Answer.{Answer}
use Rattle.h2_conn.proofs.field_block.block_end.body_length.Goals as goal

pub returns : goal.returns
returns g c = ap (λ (a : Answer). length a.body) c.answer.ensures
