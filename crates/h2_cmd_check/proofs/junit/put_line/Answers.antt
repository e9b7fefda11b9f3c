use Rattle.std.proofs.Common.{Option, List, ℕ, codes, subst}
use Rattle.h2_cmd_check.specs.JUnit.{case_front, skipped_front, title_of_line}
use Rattle.h2_cmd_check.specs.Tap.{Gains}
use Rattle.h2_cmd_check.specs.declared.junit.TapLine.TheVariants.{Passed, Skipped, Doubtful, Failed, End}
use Rattle.h2_cmd_check.proofs.XmlGains.{gains-both, gains-kind}
use Rattle.h2_cmd_check.proofs.junit.put_line.Goals as goal

pub returns-in-Passed : goal.returns-in-Passed
returns-in-Passed c =
    let file = c.args.file.now in
    let title = title_of_line c.args.shown.now c.args.line.now in
    let front = subst (λ (t : Option (List ℕ)). Gains (case_front file t) c.args.out.now c.put_case.new.out) c.title_of.ensures c.put_case.ensures in
    gains-kind Passed c.args.kind c.args.end.now file c.args.shown.now c.args.line.now c.args.out.now c.text.new.self c.in-Passed.is
    (gains-both (case_front file title) (codes "/>\n") c.args.out.now c.put_case.new.out c.text.new.self front c.text.ensures)

pub returns-in-Skipped : goal.returns-in-Skipped
returns-in-Skipped c =
    let front = skipped_front (codes " # SKIP ") c.args.file.now c.args.shown.now c.args.line.now in
    gains-kind Skipped c.args.kind c.args.end.now c.args.file.now c.args.shown.now c.args.line.now c.args.out.now c.text-in-Skipped.new.self c.in-Skipped.is
    (gains-both front (codes "/></testcase>\n") c.args.out.now c.put_skipped.new.out c.text-in-Skipped.new.self c.put_skipped.ensures c.text-in-Skipped.ensures)

pub returns-in-Doubtful : goal.returns-in-Doubtful
returns-in-Doubtful c =
    let front = skipped_front (codes " # TODO ") c.args.file.now c.args.shown.now c.args.line.now in
    gains-kind Doubtful c.args.kind c.args.end.now c.args.file.now c.args.shown.now c.args.line.now c.args.out.now c.text-in-Doubtful.new.self c.in-Doubtful.is
    (gains-both front (codes ">\n") c.args.out.now c.put_skipped-in-Doubtful.new.out c.text-in-Doubtful.new.self c.put_skipped-in-Doubtful.ensures c.text-in-Doubtful.ensures)

pub returns-in-Failed : goal.returns-in-Failed
returns-in-Failed c =
    let file = c.args.file.now in
    let title = title_of_line c.args.shown.now c.args.line.now in
    let front = subst (λ (t : Option (List ℕ)). Gains (case_front file t) c.args.out.now c.put_case-in-Failed.new.out) c.title_of-in-Failed.ensures c.put_case-in-Failed.ensures in
    gains-kind Failed c.args.kind c.args.end.now file c.args.shown.now c.args.line.now c.args.out.now c.text-in-Failed.new.self c.in-Failed.is
    (gains-both (case_front file title) (codes "><failure message=\"what it expects does not hold\">\n") c.args.out.now c.put_case-in-Failed.new.out c.text-in-Failed.new.self front c.text-in-Failed.ensures)
