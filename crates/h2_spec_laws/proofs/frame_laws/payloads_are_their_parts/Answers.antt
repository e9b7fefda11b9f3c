use Rattle.h2_spec_laws.proofs.PayloadLaws.{data_part-joined, headers_part-joined}
use Rattle.h2_spec_laws.proofs.frame_laws.payloads_are_their_parts.Goals as goal

pub returns-clause-data : goal.returns-clause-data
returns-clause-data c = data_part-joined

pub returns-clause-headers : goal.returns-clause-headers
returns-clause-headers c = headers_part-joined
