use Rattle.std.proofs.Common.{◌≡◌, false, sym}
use Rattle.std.proofs.lemmas.Result.{on_ok_weaker}
use Rattle.h2_cmd_cases.specs.Lines as line
use Rattle.h2_cmd_cases.specs.Lines.{line_said}
use Rattle.h2_cmd_check.proofs.Going.{goes_cause, goes_explained, goes_found, goes_reason, goes_shown}
use Rattle.h2_cmd_check.proofs.walk.Walk.take_line.Goals as goal

pub returns-in-Shown-clause-goes : goal.returns-in-Shown-clause-goes
returns-in-Shown-clause-goes c =
    let said : line_said c.args.line.now ≡ line.Shown c.in-Shown.text.now = sym (rw c.in-Shown.is at c.line_of.ensures) in
    on_ok_weaker c.expect_shown.result
    (λ found. λ start begins is. rw said (goes_shown start c.args.self.now c.expect_shown.new.self c.args.conn.now c.in-Shown.text.now is found))
    c.expect_shown.ensures

pub returns-in-Cause-clause-goes : goal.returns-in-Cause-clause-goes
returns-in-Cause-clause-goes c =
    let said : line_said c.args.line.now ≡ line.Cause c.in-Cause.text.now = sym (rw c.in-Cause.is at c.line_of.ensures) in
    on_ok_weaker c.expect_cause.result
    (λ found. λ start begins is. rw said (goes_cause start c.args.self.now c.expect_cause.new.self c.in-Cause.text.now is.seen found))
    c.expect_cause.ensures

pub returns-in-Reason-clause-goes : goal.returns-in-Reason-clause-goes
returns-in-Reason-clause-goes c =
    let said : line_said c.args.line.now ≡ line.Reason c.in-Reason.text.now = sym (rw c.in-Reason.is at c.line_of.ensures) in
    on_ok_weaker c.expect_reason.result
    (λ found. λ start begins is. rw said (goes_reason start c.args.self.now c.expect_reason.new.self c.in-Reason.text.now is.seen found))
    c.expect_reason.ensures

pub returns-in-Command-clause-goes : goal.returns-in-Command-clause-goes
returns-in-Command-clause-goes c =
    let said : line_said c.args.line.now ≡ line.Command c.in-Command.text.now = sym (rw c.in-Command.is at c.line_of.ensures) in
    on_ok_weaker c.command.result (λ goes. λ start begins is. rw said (goes start begins is.seen)) c.command.ensures.goes

pub returns-in-Explained-clause-goes : goal.returns-in-Explained-clause-goes
returns-in-Explained-clause-goes c =
    let said : line_said c.args.line.now ≡ line.Explained c.in-Explained.text.now = sym (rw c.in-Explained.is at c.line_of.ensures) in
    on_ok_weaker c.expect_explained.result
    (λ found. λ start begins is. rw said (goes_explained start c.args.self.now c.expect_explained.new.self _ c.in-Explained.text.now begins.texts_are is.seen found))
    c.expect_explained.ensures

pub returns-in-Unspaced-clause-goes : goal.returns-in-Unspaced-clause-goes
returns-in-Unspaced-clause-goes c =
    let said : line_said c.args.line.now ≡ line.Unspaced c.in-Unspaced.text.now = sym (rw c.in-Unspaced.is at c.line_of.ensures) in
    on_ok_weaker c.fault.result
    (λ found. λ start begins is. rw said (goes_found false c.args.self.now c.fault.new.self found))
    c.fault.ensures
