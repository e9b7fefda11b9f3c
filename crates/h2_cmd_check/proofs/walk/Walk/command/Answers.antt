use Rattle.std.proofs.Common.{◌∙◌}
use Rattle.std.proofs.lemmas.Result.{on_ok_weaker}
use Rattle.h2_cmd_check.proofs.Commanding.{goes_commanded}
use Rattle.h2_cmd_check.proofs.walk.Walk.command.Goals as goal

pub returns-clause-same : goal.returns-clause-same
returns-clause-same c =
    on_ok_weaker c.find.result
    (λ f. (
      f.octets ∙ c.in_ok-fault.ensures.octets ∙ c.in_ok-close.ensures.octets,
      (f.at ∙ c.in_ok-fault.ensures.at ∙ c.in_ok-close.ensures.at, f.seen ∙ c.in_ok-fault.ensures.seen ∙ c.in_ok-close.ensures.seen),
    ))
    c.find.ensures

pub returns-clause-goes : goal.returns-clause-goes
returns-clause-goes c =
    on_ok_weaker c.find.result
    (λ found. λ start begins seen. goes_commanded start c.args.given.now c.args.self.now c.close.new.self c.give.new.self c.find.new.self c.args.text.now c.in_ok-fault.fault begins seen c.in_ok-close.ensures c.in_ok-fault.ensures (rw c.is_obeyed.ensures at found))
    c.find.ensures
