use Rattle.std.proofs.Common.{◌∙◌, ap}
use Rattle.h2_cmd_dialogue.specs.Woven.{Parts}
use Rattle.h2_cmd_inject.proofs.AsideLaws.{parts-put}
use Rattle.h2_cmd_inject.proofs.aside.put_parts.Goals as goal

pub returns : goal.returns
returns c =
    parts-put c.args.paint.0 c.args.parts.now c.as_slice.result.now c.as_slice-2.result.now c.args.out.now.items c.put_frames.new.out.items c.put_frames-2.new.out.items c.put_frames-2.result
    (c.as_slice.ensures.value ∙ ap (λ (p : Parts). p.withheld) c.parts.view_is) (c.as_slice-2.ensures.value ∙ ap (λ (p : Parts). p.script) c.parts.view_is)
    c.in_ok-put_frames.ensures c.put_frames-2.ensures
