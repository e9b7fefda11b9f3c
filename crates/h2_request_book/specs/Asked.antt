-- What a request asks for, as contracts see it.
use Rattle.h2_spec.specs.Requests.Request.{Request}
use Rattle.h2_request_book.specs.declared.asked.Request as declared

-- the octets that a request lends
abbrev pub asked : declared.Request → Request
asked r = record { connect = r.connect; method = r.method.now; path = r.path.now; declared = r.declared }
