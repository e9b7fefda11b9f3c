use Rattle.std.proofs.Common.{◌∙◌, sym}
use Rattle.std.proofs.lemmas.Result.{on_ok_weaker}
use Rattle.h2_cmd_check.proofs.Blessing.{let_played}
use Rattle.h2_cmd_check.proofs.Going.{walks_same}
use Rattle.h2_cmd_check.proofs.walk.Walk.pass_octets.Goals as goal

pub returns-clause-walks : goal.returns-clause-walks
returns-clause-walks c =
    on_ok_weaker c.feed.result
    (λ walks. λ start is. walks start (walks_same start c.args.self.now c.leave.new.self c.args.conn.now (c.in_ok-leave.ensures.octets ∙ c.pass.ensures.octets) (c.in_ok-leave.ensures.at ∙ c.pass.ensures.at) (c.in_ok-leave.ensures.seen ∙ c.pass.ensures.seen) is))
    c.feed.ensures.walks

pub returns-clause-place : goal.returns-clause-place
returns-clause-place c =
    on_ok_weaker c.feed.result
    (λ octets. λ start is. let_played start c.args.self.now c.pass.new.self c.leave.new.self c.feed.new.self c.args.more.now (sym c.is_empty.ensures ∙ c.if-is_empty.false) is.seen c.pass.ensures c.in_ok-leave.ensures
    octets c.feed.ensures.place.0 c.feed.ensures.place.1 c.feed.ensures.debugger)
    c.feed.ensures.octets
