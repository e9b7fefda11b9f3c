use Rattle.h2_cmd_inject.proofs.AsideLaws.{below-none, below-put}
use Rattle.h2_cmd_inject.specs.Views.{is_opening}
use Rattle.h2_cmd_inject.proofs.view.View.put_aside.Goals as goal

pub returns-then-form : goal.returns-then-form
returns-then-form c =
    let v = c.args.self.now in
    below-none c.args.form.json c.args.form.color (is_opening c.args.form v.items) v.opening v.since c.args.parts.now c.args.item.now c.args.out.now.items c.if-form.true

pub returns : goal.returns
returns c =
    let v = c.args.self.now in
    below-put c.args.form.json c.args.form.color (is_opening c.args.form v.items) v.opening v.since c.args.parts.now c.args.item.now c.args.out.now.items
    c.put_opening_parts.new.out.items c.put_unjudged.new.out.items c.put_parts.new.out.items c.put_parts.result c.if-form.false c.in_ok-put_opening_parts.ensures c.in_ok-put_unjudged.ensures c.put_parts.ensures
