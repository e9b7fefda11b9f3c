use Rattle.std.proofs.Common.{rules, ◌≡◌, ◌∙◌, ◌+◌, ◌-◌, Some, None, ap, arith, drop, take, length}
use Rattle.std.proofs.lemmas.List.{take_all}
use Rattle.h2_spec.specs.Frames.Frame.{head_at}
use Rattle.h2_debug.proofs.BreakLaws.{frame-behind, frame-found, frame-read, length-frame}
use Rattle.h2_debug.proofs.breakpoints.first_frame.Goals as goal

pub returns-in_err-head-clause-some : goal.returns-in_err-head-clause-some
returns-in_err-head-clause-some c = λ f more e short.
    let none : head_at c.args.octets.now ≡ None = search rules in
    absurd (frame-found f more (rw e at none))

pub returns-then-octets-size-clause-some : goal.returns-then-octets-size-clause-some
returns-then-octets-size-clause-some c = λ f more e short.
    let some : head_at c.args.octets.now ≡ Some c.in_ok-head.head = search rules in
    let read = frame-read f more c.in_ok-head.head short (rw e at some) in
    omega (arith, c.if-octets-size.true, length-frame f more, ap length e, read.0)

pub returns-clause-some : goal.returns-clause-some
returns-clause-some c = λ f more e short.
    let some : head_at c.args.octets.now ≡ Some c.in_ok-head.head = search rules in
    let read = frame-read f more c.in_ok-head.head short (rw e at some) in
    let size = 9 + c.in_ok-head.head.length in
    let rest : drop size c.args.octets.now ≡ more = ap (drop size) e ∙ frame-behind f more c.in_ok-head.head.length read.0 in (
      read.1,
      ap (take (length c.args.octets.now - size)) rest ∙ take_all (length c.args.octets.now - size) more (omega (arith, length-frame f more, ap length e, read.0)),
    )
