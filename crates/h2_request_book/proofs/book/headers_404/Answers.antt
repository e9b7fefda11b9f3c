use Rattle.std.proofs.Common.{rules}
use Rattle.h2_spec.specs.Requests.Answer.{response_block}
use Rattle.h2_spec.specs.Frames.Frame.{frame_octets}
use Rattle.h2_request_book.proofs.book.headers_404.Goals as goal

pub returns-clause-headers : goal.returns-clause-headers
unfolding response_block frame_octets
returns-clause-headers c = search rules
