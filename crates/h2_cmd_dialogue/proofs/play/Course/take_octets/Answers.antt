use Rattle.std.proofs.Common.{◌≡◌, ◌+◌, ℕ, List, ap, arith, length, length-drop, subst, take}
use Rattle.h2_cmd_dialogue.specs.Plays.{TakesSome}
use Rattle.h2_cmd_dialogue.proofs.PlayLaws.{takes-more}
use Rattle.h2_cmd_dialogue.proofs.play.Course.take_octets.Goals as goal

pub loop-item-preserved : goal.loop-item-preserved
loop-item-preserved c = record {
  within = omega (arith, c.loop-item.invariant.within, c.in_ok-count.ensures.within, ap length c.octets_from.ensures, length-drop c.loop-item.at c.args.octets.now);
  items = takes-more c.args.steps.now c.args.self.now c.loop-item.self c.take_front.new.self c.args.octets.now c.loop-item.at c.in_ok-count.count c.loop-item.invariant.items
      (subst (λ (xs : List ℕ). TakesSome c.args.steps.now c.loop-item.self (take c.in_ok-count.count xs) c.take_front.new.self) c.octets_from.ensures c.in_ok-count.ensures.items);
}

pub returns-then-count-eq0-clause-items : goal.returns-then-count-eq0-clause-items
returns-then-count-eq0-clause-items c =
    let same : c.loop-item.at + c.in_ok-count.count ≡ c.loop-item.at = omega (arith, c.if-count-eq0.true) in
    subst (λ (n : ℕ). TakesSome c.args.steps.now c.args.self.now (take n c.args.octets.now) c.take_front.new.self) same
    (takes-more c.args.steps.now c.args.self.now c.loop-item.self c.take_front.new.self c.args.octets.now c.loop-item.at c.in_ok-count.count c.loop-item.invariant.items
    (subst (λ (xs : List ℕ). TakesSome c.args.steps.now c.loop-item.self (take c.in_ok-count.count xs) c.take_front.new.self) c.octets_from.ensures c.in_ok-count.ensures.items))
