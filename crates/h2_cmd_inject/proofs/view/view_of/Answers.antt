use Rattle.std.proofs.Common.{◌∙◌, ℕ, List, ap}
use Rattle.h2_serve.specs.Numbered.{prefix_of, prefixed}
use Rattle.h2_cmd_inject.proofs.ViewLaws.{view-whole}
use Rattle.h2_cmd_inject.specs.Views.{viewing_of}
use Rattle.h2_cmd_inject.proofs.view.view_of.Goals as goal

pub returns : goal.returns
returns g c =
    let form = c.args.form in
    let v = c.in_ok-view.view in
    let w = c.take_all.new.self in
    let text : List ℕ = c.end.new.out.items in
    let is = view-whole form c.args.steps.now c.args.conn.state c.args.octets.now (viewing_of v) (viewing_of w) v.opening w.opening _ c.octets_from-rest.result.now
    c.new-text.result.items c.put_opening.new.out.items c.take_all.new.out.items text c.summary_since-summary.result c.new-text.ensures.items c.in_ok-view.ensures.view
    c.in_ok-view.ensures.opening c.in_ok-used.ensures.opening c.octets_from-rest.ensures c.in_ok-put_opening.ensures c.in_ok-used.ensures.taken c.in_ok-end.ensures
    c.summary_since-summary.ensures in
    (text, is, c.in_ok-shown.ensures ∙ ap (prefixed (prefix_of form.json c.args.number) form.json _) c.as_slice.ensures.value)
