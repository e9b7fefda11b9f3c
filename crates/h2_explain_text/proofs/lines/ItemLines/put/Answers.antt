use Rattle.std.proofs.Common.{◌∙◌, ℕ, List, ◌++◌, ap, flat_map, sym}
use Rattle.std.proofs.lemmas.Result.{on_ok_weaker}
use Rattle.h2_explain_text.specs.Lines.{Words, change_line, detail, moved_line, with_changes}
use Rattle.h2_explain_text.proofs.Silent.{loud_lines, opening_alone, silent_lines}
use Rattle.h2_explain_text.proofs.lines.ItemLines.put.Goals as goal

pub returns-then-is_silent : goal.returns-then-is_silent
returns-then-is_silent g c =
    let silent = sym c.is_silent.ensures ∙ c.if-is_silent.true in
    let a = c.args.account.now in
    on_ok_weaker c.gather.result
    (λ h. (opening_alone c.part.result.0.now, silent_lines _ c.part.result.0.now a.changes.items a.unshown.items c.args.paint.0 a.is_brief c.args.item.now silent h))
    c.gather.ensures.text

pub returns : goal.returns
returns g c =
    let loud = sym c.is_silent.ensures ∙ c.if-is_silent.false in
    let a = c.args.account.now in
    let color = c.args.paint.0 in
    let main = c.in_ok-put_main.ensures.text in
    let w : Words = record main.0 { entries = c.part-entries.result.0.now } in
    on_ok_weaker c.put_changed.result
    (λ h. (
      w,
      loud_lines _ color a.is_brief c.args.item.now (with_changes a.changes.items a.unshown.items w) loud
          (h ∙ ap (λ (t : List ℕ). t ++ flat_map (change_line color) (detail a.is_brief a.changes.items) ++ flat_map (moved_line color) (detail a.is_brief a.unshown.items) ++ detail a.is_brief w.entries) main.1),
    ))
    c.put_changed.ensures
