use Rattle.std.proofs.Common.{◌∙◌, sym}
use Rattle.h2_cmd_inject.proofs.AsideLaws.{opening-none, opening-put}
use Rattle.h2_cmd_inject.specs.Views.{is_opening}
use Rattle.h2_cmd_inject.proofs.view.View.put_opening_parts.Goals as goal

pub returns-then-is_opening : goal.returns-then-is_opening
returns-then-is_opening c =
    opening-put c.args.form.color (is_opening c.args.form c.args.self.now.items) c.args.self.now.opening c.args.out.now.items c.put_parts.new.out.items c.put_parts.result
    (sym c.is_opening.ensures ∙ c.if-is_opening.true) c.put_parts.ensures

pub returns : goal.returns
returns c =
    opening-none c.args.form.color (is_opening c.args.form c.args.self.now.items) c.args.self.now.opening c.args.out.now.items (sym c.is_opening.ensures ∙ c.if-is_opening.false)
