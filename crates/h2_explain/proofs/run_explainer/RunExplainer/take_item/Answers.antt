use Rattle.std.proofs.Common.{◌≡◌, ◌∙◌, ◌+◌, ℕ, List, [], Result, ap, arith, drop, inl, inr, refl, subst, sym}
use Rattle.h2_spec.specs.State.{State}
use Rattle.h2_conn.specs.Connection.{Connection, going}
use Rattle.h2_conn.specs.declared.report.TakenItem.{TakenItem}
use Rattle.h2_explain.proofs.Steps.{gains-none}
use Rattle.h2_explain.specs.Explains.{Gains, IsItemText, IsWritten, not_written}
use Rattle.h2_explain.specs.declared.run.ExplainFault.{ExplainFault}
use Rattle.h2_explain_step.specs.Explained.{IsItemOf}
use Rattle.h2_explain_step.proofs.Taken.{first-uses}
use Rattle.h2_explain.proofs.run_explainer.RunExplainer.take_item.Goals as goal

pub overflow_add-self-2 : goal.overflow_add-self-2
overflow_add-self-2 g c = omega (arith, c.requires.few.0, c.requires.few.1)

pub overflow_add-self-3 : goal.overflow_add-self-3
overflow_add-self-3 g c =
    let first = rw c.in-Ok-Some.field-0-is at c.in-Ok-Some.ensures.takes in
    let uses = first-uses _ _ _ _ _ _ first in
    omega (arith, uses.1, c.requires.few.1)

pub returns-clause-ok : goal.returns-clause-ok
returns-clause-ok g c =
    let e = c.args.self.now in
    let sent = c.in-Some.ensures ∙ ap (λ (n : ℕ). drop n c.take_item.new.out) c.start_of-start.ensures.end in
    let well = c.write_item.ensures.flag ∙ ap (λ (r : Result (Unit {0}) ExplainFault). not_written r) c.in-Ok.is in
    let observed = rw c.in-Ok-Some.field-0-is at c.in-Ok-Some.ensures.item in
    let made = subst (λ (t : List ℕ). IsItemOf c.in-Ok-Some.observed (e.items + 1) e.offset c.args.octets.now t c.item-item.result) sent c.item-item.ensures in
    record {
      item = c.item-item.result;
      explains = observed (e.items + 1) e.offset c.item-item.result made;
      used_is = sym (ap (λ (k : TakenItem). k.used) c.item-item.ensures.taken_is);
      written = subst (λ (r : Result (Unit {0}) ExplainFault). Gains (IsWritten (λ (t : List ℕ). IsItemText e.form c.take_item.new.conn.state c.item-item.result t) r) (g.O.Output.written c.args.output.now) (g.O.Output.written c.write_item.new.output)) c.in-Ok.is (c.write_item.ensures.gains well);
      tallied = c.in-Ok.ensures.tally;
      form_is = refl;
      items_are = refl;
      offset_is = refl;
      held_is = refl;
      late_is = refl;
    }

pub overflow_add-self : goal.overflow_add-self
overflow_add-self g c = omega (arith, c.requires.few.0, c.requires.few.1)

pub returns-clause-sent : goal.returns-clause-sent
returns-clause-sent g c = λ keeps. rw (c.in-Ok-Some.field-0-is, c.start_of-start.ensures.kept keeps) at c.in-Ok-Some.ensures.takes

pub returns-clause-flag : goal.returns-clause-flag
returns-clause-flag g c = c.in-Ok.ensures.flag

pub returns-in-Ok-None-clause-ok : goal.returns-in-Ok-None-clause-ok
returns-in-Ok-None-clause-ok g c =
    let none = rw c.in-Ok-None.field-0-is at c.in-Ok-None.ensures.takes in
    record { none = none.none; conn_is = c.take_item.ensures.ready ∙ ap (λ (s : State). going s []) none.same; same = refl; quiet = refl }

pub returns-in-Ok-None-clause-sent : goal.returns-in-Ok-None-clause-sent
returns-in-Ok-None-clause-sent g c = λ keeps. rw (c.in-Ok-None.field-0-is, c.start_of-start.ensures.kept keeps) at c.in-Ok-None.ensures.takes

pub returns-in-Err-clause-stopped : goal.returns-in-Err-clause-stopped
returns-in-Err-clause-stopped g c = λ keeps.
    inl (ap (λ (d : Connection). d.state) c.in-Err.ensures.unchanged.0, c.in-Err.ensures.unchanged.1 ∙ c.start_of-start.ensures.kept keeps)

pub returns-in-Err-clause-cut : goal.returns-in-Err-clause-cut
returns-in-Err-clause-cut g c = λ well. gains-none (λ (t : List ℕ). t ≡ []) refl (g.O.Output.written c.args.output.now) _ refl

pub returns-in-Err-write_item-clause-stopped : goal.returns-in-Err-write_item-clause-stopped
returns-in-Err-write_item-clause-stopped g c = λ keeps.
    inr (c.in-Ok-Some.observed.taken.used, rw (c.in-Ok-Some.field-0-is, c.start_of-start.ensures.kept keeps) at c.in-Ok-Some.ensures.takes)

pub returns-in-Err-write_item-clause-cut : goal.returns-in-Err-write_item-clause-cut
returns-in-Err-write_item-clause-cut g c = c.in-Err-write_item.ensures.gains
