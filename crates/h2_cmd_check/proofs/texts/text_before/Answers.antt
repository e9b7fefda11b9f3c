use Rattle.std.proofs.Common.{◌∙◌, arith}
use Rattle.h2_cmd_check.proofs.TextLaws.{before_at}
use Rattle.h2_cmd_check.proofs.texts.text_before.Goals as goal

pub returns : goal.returns
returns c =
    c.as_str.ensures.value
    ∙ before_at c.args.texts.now c.args.items c.index-texts-items.result (omega (arith, c.if-items-eq0.false)) c.if-items-texts.false c.index-texts-items.is
