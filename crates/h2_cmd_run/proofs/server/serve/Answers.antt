use Rattle.std.proofs.Common.{◌≡◌, ℕ, rules, subst}
use Rattle.h2_spec.specs.State.{is_allowed}
use Rattle.h2_serve.specs.Ports.{start_of}
use Rattle.h2_cmd_run.specs.ProgramEnd.{EndsInFault}
use Rattle.h2_cmd_run.proofs.Served.{drives-with, ends-at-once, ends-reported, served-all}
use Rattle.h2_cmd_run.proofs.Shown.{refused-shown}
use Rattle.h2_cmd_run.proofs.server.serve.Goals as goal

pub returns-in-Err-clause-refused : goal.returns-in-Err-clause-refused
returns-in-Err-clause-refused g c = λ quiet one. ends-at-once _ _ _ _ _ (c.refuse.ensures.line one)

pub returns-in_default-clause-refused : goal.returns-in_default-clause-refused
returns-in_default-clause-refused g c = λ quiet one. ends-at-once _ _ _ _ _ (c.refuse-in_default.ensures.line one)

pub returns-in-Err-clause-shown : goal.returns-in-Err-clause-shown
returns-in-Err-clause-shown g c = λ explained. refused-shown _ _ _ _ _ c.refuse.ensures.status c.refuse.ensures.line

pub returns-in_default-clause-shown : goal.returns-in_default-clause-shown
returns-in_default-clause-shown g c = λ explained. refused-shown _ _ _ _ _ c.refuse-in_default.ensures.status c.refuse-in_default.ensures.line

pub returns-clause-refused : goal.returns-clause-refused
returns-clause-refused g c = λ quiet one.
    let same : c.in-Ok-try_from.port ≡ c.args.plan.now.port = search rules in
    subst (λ (p : ℕ). EndsInFault p c.args.plan.now.count (g.O.Output.written c.args.output.now) (g.O.Output.written c.status_of.new.output)) same
    (ends-reported (start_of c.in-Ok.book c.args.plan.now.config) (is_allowed c.args.plan.now.config) c.in-Ok-try_from.port c.args.plan.now.count (g.O.Output.written c.args.output.now)
    (g.O.Output.written c.listen_and_serve-ended.new.output) (g.O.Output.written c.status_of.new.output) _ _ c.listen_and_serve-ended.result
    c.listen_and_serve-ended.ensures.lines (c.status_of.ensures.line one))

pub returns-clause-served : goal.returns-clause-served
returns-clause-served g c = λ quiet zero.
    let same : c.in-Ok-try_from.port ≡ c.args.plan.now.port = search rules in (
      c.in-Ok.book,
      c.in-Ok.ensures.ok,
      served-all c.in-Ok.book c.args.plan.now.config c.in-Ok-try_from.port c.args.plan.now.port c.args.plan.now.count (g.O.Output.written c.args.output.now)
          (g.O.Output.written c.listen_and_serve-ended.new.output) (g.O.Output.written c.status_of.new.output) _ _ c.listen_and_serve-ended.result c.status_of.result same
          c.listen_and_serve-ended.ensures.lines c.status_of.ensures.ok c.status_of.ensures.err zero,
    )

pub returns-clause-wires : goal.returns-clause-wires
returns-clause-wires g c =
    let same : c.in-Ok-try_from.port ≡ c.args.plan.now.port = search rules in
    drives-with _ c.in-Ok.book c.args.plan.now.config c.in-Ok-try_from.port c.args.plan.now.port c.args.plan.now.count _ _ c.in-Ok.ensures.ok same c.listen_and_serve-ended.ensures.wires
