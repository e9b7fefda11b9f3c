use Rattle.std.proofs.Common.{◌∙◌, ◌++◌, [], false, refl, sym, ap, arith}
use Rattle.std.proofs.lemmas.Result.{err_from_is_err_and}
use Rattle.h2_conn.specs.Connection.{Connection}
use Rattle.h2_serve.proofs.Exchanges.{count-more, drives-going, fault-drives, fed-no_item, has_read-more, has_read-none, reads-end, exchanges-then, exchanges-write, nonempty-one}
use Rattle.h2_serve.proofs.driving.driver.drive_with.Goals as goal

pub returns-in-Err-clause-drives : goal.returns-in-Err-clause-drives
returns-in-Err-clause-drives g c =
    let w = c.in-Err.ensures in
    let kept = sym c.is_failed.ensures.value ∙ c.if-is_failed.false in
    drives-going _ _ _ _ kept (λ e. cc) (record {
      lengths = [];
      exchanges = exchanges-write (c.is_failed.ensures.no_item c.if-is_failed.false) w.read.0 w.read.1 w.written;
      reads = (omega arith, tt);
    })

pub returns-in-Err-clause-passes : goal.returns-in-Err-clause-passes
returns-in-Err-clause-passes g c =
    has_read-none _ _ _ c.in-Err.ensures.read.0 (g.met.D.Driven.passes_none c.args.driven.now)

pub loop-turn-init : goal.loop-turn-init
loop-turn-init g c =
    let w = c.in-Ok.ensures in
    let kept = sym c.is_failed.ensures.value ∙ c.if-is_failed.false in
    let none = c.is_failed.ensures.no_item c.if-is_failed.false in
    record {
      lengths = [];
      exchanges = exchanges-write none w.read.0 w.read.1 w.written;
      count = refl;
      nonempty = tt;
      no_item = none;
      going = kept;
      kept = kept;
      ready = c.requires.ready;
      passes = has_read-none _ _ _ w.read.0 (g.met.D.Driven.passes_none _);
      flag = w.flag;
      empty = w.ok;
    }

pub returns-then-branch-eq0-clause-drives : goal.returns-then-branch-eq0-clause-drives
returns-then-branch-eq0-clause-drives g c =
    let so_far = c.loop-turn.invariant in
    let t = c.in_ok-take_turn.ensures.turn in
    drives-going _ _ _ _ so_far.going (λ e. cc) (record {
      lengths = so_far.lengths ++ t.lengths;
      exchanges = exchanges-then false so_far.exchanges t.exchanges;
      reads =
          reads-end _ _ so_far.lengths t.lengths _ so_far.count c.loop-turn-test.true so_far.nonempty t.reads c.if-branch-eq0.true;
    })

pub returns-then-branch-eq0-clause-passes : goal.returns-then-branch-eq0-clause-passes
returns-then-branch-eq0-clause-passes g c =
    has_read-more _ _ _ _ _ _ c.loop-turn.invariant.passes c.in_ok-take_turn.ensures.passes
    (λ x y p q. g.met.D.Driven.passes_more _ _ _ _ x y p q)

pub returns-in_err-take_turn-clause-drives : goal.returns-in_err-take_turn-clause-drives
returns-in_err-take_turn-clause-drives g c =
    let so_far = c.loop-turn.invariant in
    let p = err_from_is_err_and c.from_residual.result c.from_residual.ensures.1 in
    rw (p.1, p.2) (fault-drives _ _ _ _ _ so_far.lengths _ so_far.count c.loop-turn-test.true so_far.nonempty so_far.going
    so_far.exchanges
    c.in_err-take_turn.ensures.turn _ c.in_err-take_turn.ensures.ends)

pub returns-in_err-take_turn-clause-passes : goal.returns-in_err-take_turn-clause-passes
returns-in_err-take_turn-clause-passes g c =
    let p = err_from_is_err_and c.from_residual.result c.from_residual.ensures.1 in
    rw (p.1, p.2) (has_read-more _ _ _ _ _ _ c.loop-turn.invariant.passes c.in_err-take_turn.ensures.passes
    (λ x y p q. g.met.D.Driven.passes_more _ _ _ _ x y p q))

pub loop-turn-preserved : goal.loop-turn-preserved
loop-turn-preserved g c =
    let so_far = c.loop-turn.invariant in
    let t = c.in_ok-take_turn.ensures.turn in
    record {
      lengths = so_far.lengths ++ t.lengths;
      exchanges = exchanges-then false so_far.exchanges t.exchanges;
      count = count-more so_far.lengths t.lengths _ _ so_far.count t.reads;
      nonempty = nonempty-one so_far.lengths t.lengths _ so_far.nonempty t.reads (omega (arith, c.if-branch-eq0.false));
      no_item = fed-no_item _ _ _ _ _ t.exchanges.feeds;
      going = so_far.going;
      kept = ap (λ (d : Connection). d.failed) t.exchanges.feeds.1.after;
      ready = c.in_ok-take_turn.ensures.ready;
      passes = has_read-more _ _ _ _ _ _ so_far.passes c.in_ok-take_turn.ensures.passes
          (λ x y p q. g.met.D.Driven.passes_more _ _ _ _ x y p q);
      flag = c.in_ok-take_turn.ensures.flag;
      empty = c.in_ok-take_turn.ensures.ends.0;
    }

pub returns-in-None-clause-drives : goal.returns-in-None-clause-drives
returns-in-None-clause-drives g c =
    let so_far = c.loop-turn.invariant in
    drives-going _ _ _ _ so_far.going (λ e. cc) (record {
      lengths = so_far.lengths;
      exchanges = so_far.exchanges;
      reads = (
        omega (arith, so_far.count, c.loop-turn-test.false, c.loop-turn.auto._turn-end),
        so_far.nonempty,
      );
    })
