use Rattle.h2_explain.proofs.Steps.{end-says}
use Rattle.h2_explain.proofs.run_explainer.RunExplainer.end.Goals as goal

pub returns-clause-gains : goal.returns-clause-gains
returns-clause-gains g c = λ well.
    end-says c.args.conn.now c.args.self.now c.write_end.result (g.O.Output.written c.args.output.now) (g.O.Output.written c.write_end.new.output) (c.write_end.ensures.gains well)
