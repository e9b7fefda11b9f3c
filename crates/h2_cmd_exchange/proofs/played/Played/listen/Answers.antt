use Rattle.std.proofs.Common.{◌≡◌, ◌∙◌, sym, refl, true, false, arith}
use Rattle.h2_cmd_exchange.specs.Plays.{goes_on}
use Rattle.h2_cmd_exchange.proofs.ListenLaws.{goes_on-within, listens-last, listens-more, listens-none}
use Rattle.h2_cmd_exchange.proofs.played.Played.listen.Goals as goal

pub loop-alloc-smaller : goal.loop-alloc-smaller
loop-alloc-smaller g c =
    let go : goes_on c.args.asked c.loop-alloc.self ≡ true = sym c.goes_on.ensures ∙ c.loop-alloc-test.true in
    omega (arith, goes_on-within c.args.asked c.loop-alloc.self go, c.in_ok-is_heard.ensures.grows c.if-not-is_heard.false)

pub loop-alloc-preserved : goal.loop-alloc-preserved
loop-alloc-preserved g c =
    let go : goes_on c.args.asked c.loop-alloc.self ≡ true = sym c.goes_on.ensures ∙ c.loop-alloc-test.true in
    λ q end rest. c.loop-alloc.invariant q end
    (listens-more c.args.asked c.loop-alloc.self c.hear.new.self q (g.L.Link.log c.loop-alloc.link) (g.L.Link.log c.hear.new.link) end go (rw c.if-not-is_heard.false at c.in_ok-is_heard.ensures.hears) rest)

pub returns-then-not-is_heard : goal.returns-then-not-is_heard
returns-then-not-is_heard g c =
    let go : goes_on c.args.asked c.loop-alloc.self ≡ true = sym c.goes_on.ensures ∙ c.loop-alloc-test.true in
    c.loop-alloc.invariant c.hear.new.self (g.L.Link.log c.hear.new.link)
    (listens-last c.args.asked c.loop-alloc.self c.hear.new.self (g.L.Link.log c.loop-alloc.link) (g.L.Link.log c.hear.new.link) go (rw c.if-not-is_heard.true at c.in_ok-is_heard.ensures.hears))

pub returns : goal.returns
returns g c =
    c.loop-alloc.invariant c.loop-alloc.self (g.L.Link.log c.loop-alloc.link)
    (listens-none c.args.asked c.loop-alloc.self (g.L.Link.log c.loop-alloc.link) (sym c.goes_on.ensures ∙ c.loop-alloc-test.false))
