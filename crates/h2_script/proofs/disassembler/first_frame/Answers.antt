use Rattle.std.proofs.Common.{◌∙◌, ◌≤◌, ◌<◌, List, ℕ, ap, drop, length, subst, take}
use Rattle.h2_spec.specs.declared.frames.Head.{Head}
use Rattle.h2_script.proofs.Written.{head_nine, head_same}
use Rattle.h2_script.proofs.disassembler.first_frame.Goals as goal

pub octets_from-rest-requires : goal.octets_from-rest-requires
octets_from-rest-requires c = head_nine c.in-Some.head c.args.octets.now c.in-Some.ensures

pub returns-then-rest-head : goal.returns-then-rest-head
returns-then-rest-head c = λ h at.
    let same = head_same c.args.octets.now c.in-Some.head h c.in-Some.ensures at in
    let short : length (drop 9 c.args.octets.now) < c.in-Some.head.length = subst (λ (r : List ℕ). length r < c.in-Some.head.length) c.octets_from-rest.ensures c.if-rest-head.true in
    subst (λ (k : Head). length (drop 9 c.args.octets.now) < k.length) same short

pub returns : goal.returns
returns c = (
  c.in-Some.ensures,
  subst (λ (r : List ℕ). c.in-Some.head.length ≤ length r) c.octets_from-rest.ensures c.if-rest-head.false,
  c.octets_up_to.ensures ∙ ap (take c.in-Some.head.length) c.octets_from-rest.ensures,
)
