use Rattle.std.proofs.Common.{◌∙◌, Bool, subst, sym}
use Rattle.std.proofs.lemmas.Result.{on_ok_weaker}
use Rattle.h2_cmd_check.specs.Blessed.{renewed_sent, renewed_sent_place}
use Rattle.h2_cmd_check.specs.Walks.{Writes, place_of}
use Rattle.h2_cmd_check.proofs.Blessing.{renewed_last}
use Rattle.h2_cmd_check.proofs.walk.Walk.renew_sent.Goals as goal

pub returns-clause-same : goal.returns-clause-same
returns-clause-same c =
    on_ok_weaker c.end_sent.result (λ t. (t.octets ∙ c.in_ok-keep_sent.ensures.octets, (t.at ∙ c.in_ok-keep_sent.ensures.at, t.seen ∙ c.in_ok-keep_sent.ensures.seen))) c.end_sent.ensures

pub returns-clause-text : goal.returns-clause-text
returns-clause-text c =
    on_ok_weaker c.end_sent.result
    (λ tells. λ start seen.
    subst (λ (b : Bool). Writes (renewed_sent start (place_of c.args.self.now) b c.args.text.now) (renewed_sent_place start (place_of c.args.self.now) b c.args.text.now) c.end_sent.new.self c.args.out.now c.end_sent.new.out)
    (sym c.if-more.false) (renewed_last start c.args.self.now c.keep_sent.new.self c.end_sent.new.self c.args.text.now c.args.out.now c.keep_sent.new.out c.end_sent.new.out seen c.in_ok-keep_sent.ensures tells))
    c.end_sent.ensures
