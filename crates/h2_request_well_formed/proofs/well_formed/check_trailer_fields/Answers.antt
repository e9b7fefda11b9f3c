use Rattle.std.proofs.Common.{◌∙◌, sym}
use Rattle.h2_request_well_formed.specs.Fields.{fields_in}
use Rattle.h2_request_well_formed.proofs.Seen.{seen-trailers-reason}
use Rattle.h2_request_well_formed.proofs.well_formed.check_trailer_fields.Goals as goal

pub returns-in-Some-clause-refused : goal.returns-in-Some-clause-refused
returns-in-Some-clause-refused g c = sym (c.in-Some.ensures ∙ seen-trailers-reason (fields_in c.args.fields.now) c.of.result.marks c.of.ensures.marks)

pub returns-in-None-clause-accepted : goal.returns-in-None-clause-accepted
returns-in-None-clause-accepted g c = sym (c.in-None.ensures ∙ seen-trailers-reason (fields_in c.args.fields.now) c.of.result.marks c.of.ensures.marks)
