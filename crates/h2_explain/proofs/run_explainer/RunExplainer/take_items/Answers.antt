use Rattle.std.proofs.Common.{◌∙◌, ◌+◌, ℕ, Option, Result, ap, arith, drop, length, length-drop, refl}
use Rattle.std.proofs.lemmas.List.{drop-drop}
use Rattle.h2_conn.proofs.Runs.{leads-refl, leads-stop, leads-takes}
use Rattle.h2_explain.specs.Explains.{not_written}
use Rattle.h2_explain.specs.declared.run.ExplainFault.{ExplainFault}
use Rattle.h2_explain.proofs.Steps.{first-takes, leads-stopped, on-cut-then, on-next-at, on-none, on-start, takes-uses}
use Rattle.h2_explain.proofs.run_explainer.RunExplainer.take_items.Goals as goal

pub loop-used-init : goal.loop-used-init
loop-used-init g c = record {
  within = omega arith;
  ready = c.requires.ready;
  writer = c.requires.writer;
  name = refl;
  on = on-start c.args.self.now c.args.conn.now.state c.args.octets.now _ c.requires.few.0;
  held = refl;
  late = refl;
  leads = λ e. (0, leads-refl c.args.conn.now.state c.args.octets.now c.args.out.now);
}

pub loop-used-preserved : goal.loop-used-preserved
loop-used-preserved g c =
    let octets = c.args.octets.now in
    let at = c.loop-used.at in
    let i = c.loop-used.invariant in
    let y = rw (c.octets_from-rest.ensures, c.in-Ok-Some.field-0-is) at c.in-Ok-Some.ensures.ok in
    let uses = takes-uses c.loop-used.self c.take_item.new.self c.loop-used.conn.state (drop c.loop-used.at c.args.octets.now) (g.O.Output.written c.loop-used.output) (g.O.Output.written c.take_item.new.output) c.take_item.new.conn c.in-Ok-Some.used y in
    record {
      within = omega (arith, i.within, uses.1, length-drop at octets);
      ready = c.take_item.ensures.ready;
      writer = c.take_item.ensures.flag ∙ ap (λ (r : Result (Option ℕ) ExplainFault). not_written r) c.in-Ok-Some.is;
      name = c.take_item.ensures.name ∙ i.name;
      on = on-next-at c.args.self.now c.loop-used.self c.take_item.new.self c.args.conn.now.state c.loop-used.conn.state octets at c.take_item.new.conn
          (g.O.Output.written c.args.output.now) (g.O.Output.written c.loop-used.output) (g.O.Output.written c.take_item.new.output) c.in-Ok-Some.used i.on y;
      held = y.held_is ∙ i.held;
      late = y.late_is ∙ i.late;
      leads = λ e.
          let one = i.leads e in
          let first = rw (c.octets_from-rest.ensures, c.in-Ok-Some.field-0-is) at c.in-Ok-Some.ensures.sent e in
          (one.0 + 1, leads-takes _ _ _ _ _ _ _ _ _ _ one.1 (rw (← drop-drop c.in-Ok-Some.used at octets) (first-takes _ _ _ _ _ _ first)));
    }

pub loop-used-smaller : goal.loop-used-smaller
loop-used-smaller g c =
    let y = rw (c.octets_from-rest.ensures, c.in-Ok-Some.field-0-is) at c.in-Ok-Some.ensures.ok in
    let uses = takes-uses c.loop-used.self c.take_item.new.self c.loop-used.conn.state (drop c.loop-used.at c.args.octets.now) (g.O.Output.written c.loop-used.output) (g.O.Output.written c.take_item.new.output) c.take_item.new.conn c.in-Ok-Some.used y in
    omega (arith, c.loop-used.invariant.within, uses.0, uses.1, length-drop c.loop-used.at c.args.octets.now)

pub overflow_add-at : goal.overflow_add-at
overflow_add-at g c =
    let y = rw (c.octets_from-rest.ensures, c.in-Ok-Some.field-0-is) at c.in-Ok-Some.ensures.ok in
    let uses = takes-uses c.loop-used.self c.take_item.new.self c.loop-used.conn.state (drop c.loop-used.at c.args.octets.now) (g.O.Output.written c.loop-used.output) (g.O.Output.written c.take_item.new.output) c.take_item.new.conn c.in-Ok-Some.used y in
    omega (arith, c.loop-used.invariant.within, uses.1, c.requires.few.1, length-drop c.loop-used.at c.args.octets.now)

pub returns-in-Ok-None-clause-sent : goal.returns-in-Ok-None-clause-sent
returns-in-Ok-None-clause-sent g c = λ e.
    let none = rw (c.octets_from-rest.ensures, c.in-Ok-None.field-0-is) at c.in-Ok-None.ensures.sent e in
    let one = c.loop-used.invariant.leads e in
    (one.0, rw (none.same, none.quiet) (leads-stop _ _ _ _ _ _ _ one.1 none.none))

pub returns-in-Err-clause-stopped : goal.returns-in-Err-clause-stopped
returns-in-Err-clause-stopped g c = λ e.
    let one = c.loop-used.invariant.leads e in
    let stops = rw c.octets_from-rest.ensures at c.in-Err.ensures.stopped e in
    leads-stopped c.args.conn.now.state c.loop-used.conn.state c.take_item.new.conn.state one.0 c.args.octets.now (drop c.loop-used.at c.args.octets.now) c.args.out.now c.loop-used.out c.take_item.new.out one.1 stops

pub returns-in-Err-clause-cut : goal.returns-in-Err-clause-cut
returns-in-Err-clause-cut g c = λ well.
    on-cut-then c.args.self.now c.loop-used.self c.args.conn.now.state c.loop-used.conn.state c.args.octets.now (drop c.loop-used.at c.args.octets.now)
    (g.O.Output.written c.args.output.now) (g.O.Output.written c.loop-used.output) (g.O.Output.written c.take_item.new.output) c.loop-used.invariant.on (c.in-Err.ensures.cut well)

pub take_item-requires-clause-few : goal.take_item-requires-clause-few
take_item-requires-clause-few g c =
    let i = c.loop-used.invariant in
    (i.on.counted, omega (arith, i.on.offset_is, c.requires.few.1, ap length c.octets_from-rest.ensures))

pub returns-in-Ok-None-clause-ok : goal.returns-in-Ok-None-clause-ok
returns-in-Ok-None-clause-ok g c =
    let y = rw (c.octets_from-rest.ensures, c.in-Ok-None.field-0-is) at c.in-Ok-None.ensures.ok in
    record { on = on-none _ _ _ _ _ _ _ _ _ _ _ c.loop-used.invariant.on y; stops = rw y.conn_is y.none }
