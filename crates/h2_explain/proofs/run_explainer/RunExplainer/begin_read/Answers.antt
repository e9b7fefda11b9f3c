use Rattle.std.proofs.Common.{refl}
use Rattle.h2_explain.proofs.run_explainer.RunExplainer.begin_read.Goals as goal

pub returns : goal.returns
returns g c = (record c.args.self.now.explainer { granted = c.begin.new.self }, refl)
