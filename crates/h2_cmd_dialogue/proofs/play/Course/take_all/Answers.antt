use Rattle.std.proofs.Common.{◌≡◌, ◌∙◌, ℕ, List, ap, drop, subst, take}
use Rattle.h2_cmd_dialogue.specs.Plays.{Course, TakesSome}
use Rattle.h2_cmd_dialogue.proofs.PlayLaws.{goes-taken}
use Rattle.h2_cmd_dialogue.proofs.play.Course.take_all.Goals as goal

pub returns : goal.returns
returns c =
    let came : c.as_slice.result.now ≡ c.args.self.now.inbox = c.as_slice.ensures.value ∙ c.take_inbox-inbox.ensures.octets in
    λ log. goes-taken c.args.steps.now c.args.self.now c.take_octets.new.self c.put_inbox.new.self c.in_ok-taken.taken log
    (subst (λ (d : Course). TakesSome c.args.steps.now d (take c.in_ok-taken.taken c.args.self.now.inbox) c.take_octets.new.self) c.take_inbox-inbox.ensures.rest
    (subst (λ (xs : List ℕ). TakesSome c.args.steps.now c.take_inbox-inbox.new.self (take c.in_ok-taken.taken xs) c.take_octets.new.self) came c.in_ok-taken.ensures.items))
    (c.put_inbox.ensures ∙ ap (λ (xs : List ℕ). record c.take_octets.new.self { inbox = drop c.in_ok-taken.taken xs }) c.take_inbox-inbox.ensures.octets)
