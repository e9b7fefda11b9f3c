use Rattle.std.proofs.Common.{◌≡◌, ◌∙◌, Bool, true, false, List, Some, ℕ, ap, is_err, map, subst, sym}
use Rattle.std.specs.Str.{is_utf8}
use Rattle.h2_cmd_cases.specs.Files.{cases_in}
use Rattle.h2_spec.specs.Texts.Script.{lines_of}
use Rattle.h2_cmd_run.specs.CheckProgram.{Reports, Subject, cases_if, common_of, subject}
use Rattle.h2_cmd_run.proofs.Checked.{reports_stopped, subjects_are}
use Rattle.h2_cmd_run.proofs.check.check_text.Goals as goal

pub returns-then-not-is_text-clause-reports : goal.returns-then-not-is_text-clause-reports
returns-then-not-is_text-clause-reports g c = λ printed well.
    let d = g.F.Files.file c.args.files.now in
    let s = common_of c.args.common in
    let no : is_utf8 c.args.text.now ≡ false = sym c.is_text.ensures ∙ c.if-not-is_text.true in
    subst (λ (b : Bool). Reports (is_err c.refuse_file.result) d s c.args.tally.now (map (subject c.args.file.now) (cases_if false b c.args.text.now)) c.refuse_file.new.tally (g.O.Output.written c.args.output.now) (g.O.Output.written c.refuse_file.new.output))
    (sym no) (c.refuse_file.ensures.reports well d s)

pub returns-in-Ok-clause-reports : goal.returns-in-Ok-clause-reports
returns-in-Ok-clause-reports g c = λ printed well.
    let d = g.F.Files.file c.args.files.now in
    let s = common_of c.args.common in
    let file = c.args.file.now in
    let yes : is_utf8 c.args.text.now ≡ true = sym c.is_text.ensures ∙ c.if-not-is_text.false in
    let lines : map (λ l. l.now) c.as_slice.result.now ≡ lines_of c.args.text.now = ap (λ ls. map (λ l. l.now) ls) c.as_slice.ensures.value ∙ c.in-Ok.ensures in
    let same = ap (λ (ls : List (List ℕ)). map (λ l. subject file (Some l)) (cases_in ls)) lines ∙ subjects_are file (cases_in (lines_of c.args.text.now)) in
    let reports = subst (λ (xs : List Subject). Reports (is_err c.check_cases.result) d s c.args.tally.now xs c.check_cases.new.tally (g.O.Output.written c.args.output.now) (g.O.Output.written c.check_cases.new.output)) same (c.check_cases.ensures.reports printed well) in
    subst (λ (b : Bool). Reports (is_err c.check_cases.result) d s c.args.tally.now (map (subject file) (cases_if false b c.args.text.now)) c.check_cases.new.tally (g.O.Output.written c.args.output.now) (g.O.Output.written c.check_cases.new.output))
    (sym yes) reports

pub returns-in-Err-clause-reports : goal.returns-in-Err-clause-reports
returns-in-Err-clause-reports g c = λ printed well.
    reports_stopped (g.F.Files.file c.args.files.now) (common_of c.args.common) c.args.tally.now (map (subject c.args.file.now) (cases_if false (is_utf8 c.args.text.now) c.args.text.now)) (g.O.Output.written c.args.output.now)
