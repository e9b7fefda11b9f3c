use Rattle.std.proofs.Common.{◌≡◌, [], drop, arith, drop_of_length-le, length-drop}
use Rattle.std.proofs.lemmas.List.{drop-drop}
use Rattle.h2_conn.proofs.FeedingLaws.{first-takes, first-uses}
use Rattle.h2_conn.proofs.Plays.{empty-stop}
use Rattle.h2_conn.proofs.Runs.{leads-refl, leads-stop, leads-takes}
use Rattle.h2_conn.proofs.feed.first.take_all.Goals as goal

pub loop-used-init : goal.loop-used-init
loop-used-init g c = record {
  leads = leads-refl c.args.state.now c.args.octets.now (g.O.Outgoing.octets c.args.out.now);
  few = omega arith;
  within = omega arith;
}

pub loop-used-preserved : goal.loop-used-preserved
loop-used-preserved g c =
    let first = rw (c.octets_from.ensures, c.in-Some.is) at c.in_ok-more.ensures.ok in
    let uses = first-uses _ _ _ _ _ _ first in
    record {
      leads = leads-takes _ _ _ _ _ _ _ _ _ _ c.loop-used.invariant.leads
          (rw (← drop-drop c.in-Some.more c.loop-used.used c.args.octets.now) (first-takes _ _ _ _ _ _ first));
      few = omega (arith, c.loop-used.invariant.few, uses.0);
      within = omega (arith, c.loop-used.invariant.within, uses.1, length-drop c.loop-used.used c.args.octets.now);
    }

pub loop-used-smaller : goal.loop-used-smaller
loop-used-smaller g c =
    let first = rw (c.octets_from.ensures, c.in-Some.is) at c.in_ok-more.ensures.ok in
    let uses = first-uses _ _ _ _ _ _ first in
    omega (arith, c.loop-used.invariant.within, uses.0, uses.1, length-drop c.loop-used.used c.args.octets.now)

pub returns-in_default-clause-ok : goal.returns-in_default-clause-ok
returns-in_default-clause-ok g c =
    let none = rw (c.octets_from.ensures, c.in_default.is) at c.in_ok-more.ensures.ok in
    rw (none.same, none.quiet) (leads-stop _ _ _ _ _ _ _ c.loop-used.invariant.leads none.none)

pub overflow_add-used : goal.overflow_add-used
overflow_add-used g c =
    let first = rw (c.octets_from.ensures, c.in-Some.is) at c.in_ok-more.ensures.ok in
    let uses = first-uses _ _ _ _ _ _ first in
    omega (arith, c.loop-used-test.true, uses.1, length-drop c.loop-used.used c.args.octets.now)

pub returns-clause-ok : goal.returns-clause-ok
returns-clause-ok g c =
    let past : drop c.loop-used.used c.args.octets.now ≡ [] = drop_of_length-le c.args.octets.now (omega (arith, c.loop-used-test.false)) in
    leads-stop _ _ _ _ _ _ _ c.loop-used.invariant.leads (rw past (empty-stop c.loop-used.state))
