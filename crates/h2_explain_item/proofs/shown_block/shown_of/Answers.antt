use Rattle.std.proofs.Common.{◌∙◌, arith}
use Rattle.h2_explain_item.proofs.ShownLaws.{shown-next, shown-none}
use Rattle.h2_explain_item.proofs.shown_block.shown_of.Goals as goal

pub loop-place-preserved : goal.loop-place-preserved
loop-place-preserved g c =
    c.loop-place.invariant ∙ shown-next c.args.fields.now.fields c.loop-place.place c.loop-place.size _ _ (omega (arith, c.loop-place-test.true, c.len-place-end.ensures)) c.if-size-gt-MOST.false c.get.ensures c.size_with-size.ensures

pub returns-then-size-gt-MOST : goal.returns-then-size-gt-MOST
returns-then-size-gt-MOST g c =
    let none = shown-none c.args.fields.now.fields c.loop-place.place c.loop-place.size c.if-size-gt-MOST.true in
    omega (arith, c.loop-place.invariant, none)
