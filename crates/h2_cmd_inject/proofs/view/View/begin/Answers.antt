use Rattle.std.proofs.Common.{◌∙◌, ap}
use Rattle.h2_cmd_dialogue.specs.Steps.{Start}
use Rattle.h2_cmd_dialogue.specs.Woven.{Weaving, after_item}
use Rattle.h2_cmd_inject.proofs.ViewLaws.{begun-parts, view-begun}
use Rattle.h2_cmd_inject.proofs.view.View.begin.Goals as goal

pub returns-clause-opening : goal.returns-clause-opening
returns-clause-opening g c =
    c.opening.view_is ∙ begun-parts c.args.steps.now c.args.conn.state c.new-weaver.result c.config.result c.as_slice.result.now c.write_opening.new.out.items c.new-sent.result.items
    c.in_ok-opening.opening c.in_ok-opening.ensures.parts c.new-weaver.ensures c.as_slice.ensures.value c.in_ok-write_opening.ensures.ok c.new-sent.ensures.items c.config.ensures

pub returns-clause-view : goal.returns-clause-view
returns-clause-view g c =
    let parts = begun-parts c.args.steps.now c.args.conn.state c.new-weaver.result c.config.result c.as_slice.result.now c.write_opening.new.out.items c.new-sent.result.items
    c.in_ok-opening.opening c.in_ok-opening.ensures.parts c.new-weaver.ensures c.as_slice.ensures.value c.in_ok-write_opening.ensures.ok c.new-sent.ensures.items c.config.ensures in
    view-begun c.args.steps.now c.args.conn.state _ c.in_ok-opening.opening c.since_with-since.result c.new-2.result
    (c.weaver.view_is ∙ c.in_ok-opening.ensures.state ∙ ap (λ (w : Weaving). after_item c.args.steps.now w Start) c.new-weaver.ensures) parts c.since_with-since.ensures c.new-2.ensures
