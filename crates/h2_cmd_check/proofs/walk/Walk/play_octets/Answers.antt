use Rattle.std.proofs.Common.{◌∙◌, sym}
use Rattle.std.proofs.lemmas.Result.{on_ok_weaker}
use Rattle.h2_cmd_check.proofs.Going.{goes_played, walks_same}
use Rattle.h2_cmd_check.proofs.walk.Walk.play_octets.Goals as goal

pub returns-clause-walks : goal.returns-clause-walks
returns-clause-walks c =
    on_ok_weaker c.feed.result
    (λ walks. λ start is. walks start (walks_same start c.args.self.now c.leave.new.self c.args.conn.now (c.in_ok-leave.ensures.octets ∙ c.in_ok-close.ensures.octets) (c.in_ok-leave.ensures.at ∙ c.in_ok-close.ensures.at) (c.in_ok-leave.ensures.seen ∙ c.in_ok-close.ensures.seen) is))
    c.feed.ensures.walks

pub returns-clause-goes : goal.returns-clause-goes
returns-clause-goes c =
    on_ok_weaker c.feed.result
    (λ octets. λ start is. goes_played start c.args.self.now c.close.new.self c.leave.new.self c.feed.new.self c.args.more.now (sym c.is_empty.ensures ∙ c.if-is_empty.false) is.seen
    c.in_ok-close.ensures c.in_ok-leave.ensures octets c.feed.ensures.place.0 c.feed.ensures.place.1 c.feed.ensures.debugger c.feed.ensures.holds)
    c.feed.ensures.octets
