use Rattle.std.proofs.Common.{sym}
use Rattle.h2_debug.proofs.BreakLaws.{left-found, left-next, left-none}
use Rattle.h2_debug.proofs.breakpoints.sends.Goals as goal

pub returns-then-found-kind : goal.returns-then-found-kind
returns-then-found-kind c = λ frames e short.
    sym (left-found frames c.args.kind c.in-Some.found c.loop-found.rest.now c.in-Some.more.now (c.loop-found.invariant frames e short) (λ none. cc (c.in-Some.ensures.none none))
    c.in-Some.ensures.some c.if-found-kind.true)

pub loop-found-preserved : goal.loop-found-preserved
loop-found-preserved c = λ frames e short.
    left-next frames c.args.kind c.in-Some.found c.loop-found.rest.now c.in-Some.more.now (c.loop-found.invariant frames e short) (λ none. cc (c.in-Some.ensures.none none))
    c.in-Some.ensures.some c.if-found-kind.false

pub returns : goal.returns
returns c = λ frames e short. sym (left-none frames c.args.kind c.loop-found.rest.now (c.loop-found.invariant frames e short) (λ f m is one. rw c.in_default.is at (c.first_frame.ensures.some f m is one)))
