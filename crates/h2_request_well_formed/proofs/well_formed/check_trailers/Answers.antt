use Rattle.h2_spec.specs.Requests.Reasons.{IsTrailersReason}
use Rattle.h2_spec.specs.Requests.Request.{malformed_trailers}
use Rattle.h2_spec.proofs.RequestLaws.{least_of_trailers}
use Rattle.h2_request_well_formed.proofs.LeastReasons.{least_where, none_where}
use Rattle.h2_request_well_formed.proofs.well_formed.check_trailers.Goals as goal

pub returns-clause-none : goal.returns-clause-none
returns-clause-none g c =
    let fields = c.args.fields.now in
    none_where (IsTrailersReason fields) (malformed_trailers fields) c.check_trailer_fields.result (least_of_trailers fields) c.check_trailer_fields.ensures.accepted

pub returns-clause-least : goal.returns-clause-least
returns-clause-least g c =
    let fields = c.args.fields.now in
    least_where (IsTrailersReason fields) (malformed_trailers fields) c.check_trailer_fields.result (least_of_trailers fields) c.check_trailer_fields.ensures.refused
