use Rattle.std.proofs.Common.{◌≡◌, ◌∙◌, ap, length}
use Rattle.h2_explain_text.specs.declared.rest.InputRest.{InputRest}
use Rattle.h2_explain.proofs.run_explainer.RunExplainer.end_text.Goals as goal

pub returns : goal.returns
returns g c =
    let held : c.rest_of-rest.result.octets ≡ length c.args.self.now.held.items = ap (λ (r : InputRest). r.octets) c.rest_of-rest.ensures ∙ ap length c.as_slice.ensures.value in
    let items : c.rest_of-rest.result.items ≡ c.args.self.now.items = ap (λ (r : InputRest). r.items) c.rest_of-rest.ensures in
    rw (held, items) at c.said.ensures
