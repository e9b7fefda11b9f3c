use Rattle.std.proofs.Common.{◌∙◌, Bool, ap, map, refl}
use Rattle.std.specs.String.{string_bytes}
use Rattle.h2_cmd_check.specs.Cases.{Start, outcome}
use Rattle.h2_cmd_cases.specs.Files.{expect_something}
use Rattle.h2_cmd_check.proofs.Going.{all_held, begun}
use Rattle.h2_cmd_check.proofs.verdict.check_on.Goals as goal

pub returns-in-Ok-clause-verdict : goal.returns-in-Ok-clause-verdict
returns-in-Ok-clause-verdict c =
    let given = c.args.given.now in
    let start : Start = record { state = c.args.conn.now.state; sent = c.args.sent.items; texts = map string_bytes given.texts.now; book = given.book.now; config = given.config } in
    let w = c.new-walk.result in
    let walks = begun start w c.args.conn.now c.new-walk.ensures.octets.0 c.new-walk.ensures.octets.1 c.new-walk.ensures.seen c.requires.ready in
    let held = all_held start w c.check_lines.new.walk c.args.lines.now c.new-walk.ensures.holds c.new-walk.ensures.octets.0 c.new-walk.ensures.place.0 c.new-walk.ensures.place.1 c.new-walk.ensures.debugger (c.in-Ok.ensures start (record { texts_are = refl; book_is = refl; config_is = refl }) walks) in
    c.into_verdict.ensures ∙ ap (λ (b : Bool). outcome b (expect_something (map (λ l. l.now) c.args.lines.now))) held
