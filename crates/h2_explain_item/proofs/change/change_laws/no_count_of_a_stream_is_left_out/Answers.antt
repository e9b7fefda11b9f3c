use Rattle.h2_explain_item.proofs.ChangeLaws.{stream_as_before}
use Rattle.h2_explain_item.proofs.change.change_laws.no_count_of_a_stream_is_left_out.Goals as goal

pub returns : goal.returns
returns c = stream_as_before
