-- What a request asks for, by what a walk over its fields has seen.
use Rattle.std.specs.Prelude.{[], codes, bytes_eq, if◌then◌else◌, unwrap_or}
use Rattle.h2_spec.specs.Requests.Request.{Request}
use Rattle.h2_request_well_formed.specs.Walk.{Pseudo}
use Rattle.h2_request_well_formed.specs.declared.walk.ContentLength.{ContentLength}

-- what is asked for, by what a walk has seen
abbrev pub request_seen : Pseudo → ContentLength → Request
request_seen p l =
    let connect = bytes_eq (unwrap_or p.method []) (codes "CONNECT") in
    record { connect = connect; method = unwrap_or p.method []; path = if connect then [] else unwrap_or p.path []; declared = l.declared }
