use Rattle.std.proofs.Common.{◌∙◌, sym}
use Rattle.h2_request_well_formed.specs.Fields.{fields_in}
use Rattle.h2_request_well_formed.specs.Walk.{pseudo_of}
use Rattle.h2_request_well_formed.proofs.Seen.{seen-reason, seen-request}
use Rattle.h2_request_well_formed.proofs.well_formed.check_fields.Goals as goal

pub returns-in-Some-clause-refused : goal.returns-in-Some-clause-refused
returns-in-Some-clause-refused g c =
    let seen = c.of-seen.result in
    sym (c.in-Some.ensures ∙ seen-reason (fields_in c.args.fields.now) seen.marks (pseudo_of seen.pseudo) seen.length c.of-seen.ensures.marks c.of-seen.ensures.pseudo c.of-seen.ensures.length)

pub returns-in-None-clause-accepted : goal.returns-in-None-clause-accepted
returns-in-None-clause-accepted g c =
    let seen = c.of-seen.result in
    sym (c.in-None.ensures ∙ seen-reason (fields_in c.args.fields.now) seen.marks (pseudo_of seen.pseudo) seen.length c.of-seen.ensures.marks c.of-seen.ensures.pseudo c.of-seen.ensures.length)

pub returns-in-None-clause-request : goal.returns-in-None-clause-request
returns-in-None-clause-request g c =
    let seen = c.of-seen.result in
    c.requested.ensures ∙ seen-request (fields_in c.args.fields.now) seen.marks (pseudo_of seen.pseudo) seen.length c.of-seen.ensures.pseudo c.of-seen.ensures.length (sym c.in-None.ensures)
