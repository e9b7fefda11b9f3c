use Rattle.std.proofs.Common.{List, [], ℕ, map}
use Rattle.std.proofs.lemmas.Result.{IfOk-weaker}
use Rattle.h2_cmd_check.specs.Cases.{Start}
use Rattle.h2_cmd_check.proofs.Blessing.{whole}
use Rattle.h2_cmd_check.proofs.Going.{begun}
use Rattle.h2_cmd_check.proofs.bless.bless_on.Goals as goal

pub returns : goal.returns
returns c = record {
  text = λ book config.
      let start : Start = record { state = c.args.conn.now.state; sent = c.args.sent.items; texts = []; book = book; config = config } in
      let w = c.new-walk.result in
      let walks = begun start w c.args.conn.now c.new-walk.ensures.octets.0 c.new-walk.ensures.octets.1 c.new-walk.ensures.seen c.requires.ready in
      let lines : List (List ℕ) = map (λ l. l.now) c.args.lines.now in
      IfOk-weaker c.finish.result _ _ (λ text is. whole start w lines c.new-out.result c.write_anew.new.out text.items c.new-walk.ensures.octets.0 c.new-walk.ensures.place.0 c.new-walk.ensures.place.1 c.new-walk.ensures.debugger c.new-out.ensures.0 (c.in_ok-write_anew.ensures start walks) is) c.finish.ensures;
}
