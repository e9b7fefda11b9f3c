use Rattle.std.proofs.Common.{rules, ◌≡◌, [], Bool, List, ℕ, false, true, subst}
use Rattle.h2_conn.specs.Runs.{FeedsAs}
use Rattle.h2_cmd_play.proofs.Taken.{none-alone, taken-alone}
use Rattle.h2_cmd_play.proofs.places.take_next.Goals as goal

pub returns-clause-ok : goal.returns-clause-ok
returns-clause-ok g c =
    let some : c.in-Ok.one.item ≡ true = search rules in
    let fed = subst (λ (o : List ℕ). FeedsAs c.in-Ok.one.item c.args.conn.now c.args.octets.now o c.feed_one.new.self c.feed_one.new.out.items c.in-Ok.one.used) c.requires.nothing c.in-Ok.ensures.ok in
    let taken = subst (λ (b : Bool). FeedsAs b c.args.conn.now c.args.octets.now [] c.feed_one.new.self c.feed_one.new.out.items c.in-Ok.one.used) some fed in
    taken-alone c.args.conn.now c.feed_one.new.self c.args.octets.now _ _ c.requires.new taken

pub returns-then-not-one-clause-ok : goal.returns-then-not-one-clause-ok
returns-then-not-one-clause-ok g c =
    let none : c.in-Ok.one.item ≡ false = search rules in
    let fed = subst (λ (o : List ℕ). FeedsAs c.in-Ok.one.item c.args.conn.now c.args.octets.now o c.feed_one.new.self c.feed_one.new.out.items c.in-Ok.one.used) c.requires.nothing c.in-Ok.ensures.ok in
    let waits = subst (λ (b : Bool). FeedsAs b c.args.conn.now c.args.octets.now [] c.feed_one.new.self c.feed_one.new.out.items c.in-Ok.one.used) none fed in
    none-alone c.args.conn.now c.feed_one.new.self c.args.octets.now _ _ c.requires.new waits
