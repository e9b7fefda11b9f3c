use Rattle.std.proofs.Common.{◌∙◌, ap, sym}
use Rattle.h2_serve.specs.Faults.{failed_by}
use Rattle.h2_serve.proofs.Watching.{grew-well}
use Rattle.h2_serve.proofs.explained.explained_conn.ExplainedConn.finish.Goals as goal

pub returns-in-None-clause-grew : goal.returns-in-None-clause-grew
returns-in-None-clause-grew g c = λ well.
    let printed = c.print_end-conclusion.new.self.printer in
    grew-well c.args.self.printer.fault printed.fault _ (g.O.Output.written printed.output.now) (g.O.Output.written c.into_parts-output.result.0.now)
    c.print_end-conclusion.ensures.grows (ap g.O.Output.written c.into_parts-output.ensures.output)
    (ap failed_by (sym c.into_parts-output.ensures.fault ∙ c.in-None.is))

pub returns-clause-grew : goal.returns-clause-grew
returns-clause-grew g c = λ well.
    let printed = c.print_end-conclusion.new.self.printer in
    grew-well c.args.self.printer.fault printed.fault _ (g.O.Output.written printed.output.now) (g.O.Output.written c.into_parts-output.result.0.now)
    c.print_end-conclusion.ensures.grows (ap g.O.Output.written c.into_parts-output.ensures.output)
    (ap failed_by (sym c.into_parts-output.ensures.fault ∙ c.in-Some.is) ∙ sym c.of_server.ensures.write ∙ well)
