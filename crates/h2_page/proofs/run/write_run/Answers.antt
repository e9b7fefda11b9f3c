use Rattle.std.proofs.Common.{◌∙◌, ◌++◌, ℕ, List, ap}
use Rattle.h2_spec.specs.Opening.{opening_octets}
use Rattle.h2_page.proofs.Runs.{not-allowed, nothing-written, run-written}
use Rattle.h2_page.proofs.run.write_run.Goals as goal

pub returns-in-Ok : goal.returns-in-Ok
returns-in-Ok g c = λ held is.
    rw c.ended_as.ensures (run-written c.args.asked c.args.book.now c.args.octets.now _ c.in-Ok.conn held _ _ c.in-Ok.ensures.allowed c.in-Ok.ensures.opened
    (c.in-Ok.ensures.sent ∙ ap (λ (t : List ℕ). t ++ opening_octets c.args.asked.config) c.new-sent.ensures.items)
    (rw c.as_slice.ensures.value at (c.write_places.ensures.printed held is)))

pub returns-in-Err-BadConfig : goal.returns-in-Err-BadConfig
returns-in-Err-BadConfig g c = λ held is. (not-allowed _ _ c.in-Err-BadConfig.field-0-is c.in-Err-BadConfig.ensures.fault, is)

pub returns : goal.returns
returns g c = λ held is. nothing-written c.args.asked c.args.book.now c.args.octets.now held _ is
