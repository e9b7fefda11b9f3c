use Rattle.std.proofs.Common.{◌∙◌, ◌≤◌, false, List, Option, ℕ, ap, arith, is_err, length, map, subst, sym}
use Rattle.std.specs.Str.{is_utf8}
use Rattle.h2_cmd_book_file.specs.Entries.{Directory}
use Rattle.h2_cmd_run.specs.CheckProgram.{Reports, cases_if, common_of, subject, subjects_of}
use Rattle.h2_cmd_batch.specs.Input.{most}
use Rattle.h2_cmd_run.proofs.Checked.{cases_long, cases_read, cases_unread, reports_stopped}
use Rattle.h2_cmd_run.proofs.check.check_file.Goals as goal

pub returns-in-Err-NoMemory-clause-reports : goal.returns-in-Err-NoMemory-clause-reports
returns-in-Err-NoMemory-clause-reports g c = λ printed well.
    reports_stopped (g.F.Files.file c.args.files.now) (common_of c.args.common) c.args.tally.now (subjects_of (g.F.Files.file c.args.files.now) c.args.file.now) (g.O.Output.written c.args.output.now)

pub returns-in-Err-Failed-clause-reports : goal.returns-in-Err-Failed-clause-reports
returns-in-Err-Failed-clause-reports g c = λ printed well.
    let d = g.F.Files.file c.args.files.now in
    let s = common_of c.args.common in
    let none = (rw c.in-Err-Failed.field-0-is at c.in-Err-Failed.ensures.octets) printed in
    subst (λ (cs : List (Option (List (List ℕ)))). Reports (is_err c.refuse_file.result) d s c.args.tally.now (map (subject c.args.file.now) cs) c.refuse_file.new.tally (g.O.Output.written c.args.output.now) (g.O.Output.written c.refuse_file.new.output))
    (sym (cases_unread (d c.args.file.now) none)) (c.refuse_file.ensures.reports well d s)

pub returns-in-Err-TooLong-clause-reports : goal.returns-in-Err-TooLong-clause-reports
returns-in-Err-TooLong-clause-reports g c = λ printed well.
    let d = g.F.Files.file c.args.files.now in
    let s = common_of c.args.common in
    let long = (rw c.in-Err-TooLong.field-0-is at c.in-Err-TooLong.ensures.octets) printed in
    subst (λ (cs : List (Option (List (List ℕ)))). Reports (is_err c.refuse_file-in-Err-TooLong.result) d s c.args.tally.now (map (subject c.args.file.now) cs) c.refuse_file-in-Err-TooLong.new.tally (g.O.Output.written c.args.output.now) (g.O.Output.written c.refuse_file-in-Err-TooLong.new.output))
    (sym (cases_long (d c.args.file.now) long)) (c.refuse_file-in-Err-TooLong.ensures.reports well d s)

pub returns-in-Ok-clause-reports : goal.returns-in-Ok-clause-reports
returns-in-Ok-clause-reports g c = λ printed well.
    let d = g.F.Files.file c.args.files.now in
    let s = common_of c.args.common in
    let octets = c.in-Ok.text.items in
    let known = c.read.ensures.same_printed ∙ printed in
    let within : length octets ≤ most = omega (arith, c.in-Ok.ensures.within, c.in-Ok.text.ok.0) in
    let cases = ap (λ (o : List ℕ). cases_if false (is_utf8 o) o) c.as_slice.ensures.value ∙ sym (cases_read (d c.args.file.now) octets (c.in-Ok.ensures.octets printed) within) in
    let said = subst (λ (e : Directory). Reports (is_err c.check_text.result) e s c.args.tally.now (map (subject c.args.file.now) (cases_if false (is_utf8 c.as_slice.result.now) c.as_slice.result.now)) c.check_text.new.tally (g.O.Output.written c.args.output.now) (g.O.Output.written c.check_text.new.output))
    c.read.ensures.same_files (c.check_text.ensures.reports known well) in
    subst (λ (cs : List (Option (List (List ℕ)))). Reports (is_err c.check_text.result) d s c.args.tally.now (map (subject c.args.file.now) cs) c.check_text.new.tally (g.O.Output.written c.args.output.now) (g.O.Output.written c.check_text.new.output)) cases said
