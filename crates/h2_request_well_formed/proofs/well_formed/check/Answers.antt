use Rattle.h2_spec.specs.Requests.Reasons.{IsReason}
use Rattle.h2_spec.specs.Requests.Request.{malformed}
use Rattle.h2_spec.proofs.RequestLaws.{least_of_request}
use Rattle.h2_request_well_formed.proofs.LeastReasons.{least_where, none_where}
use Rattle.h2_request_well_formed.proofs.well_formed.check.Goals as goal

pub returns-clause-none : goal.returns-clause-none
returns-clause-none g c =
    let fields = c.args.fields.now in
    none_where (IsReason fields) (malformed fields) c.check_fields.result (least_of_request fields) c.check_fields.ensures.accepted

pub returns-clause-least : goal.returns-clause-least
returns-clause-least g c =
    let fields = c.args.fields.now in
    least_where (IsReason fields) (malformed fields) c.check_fields.result (least_of_request fields) c.check_fields.ensures.refused
