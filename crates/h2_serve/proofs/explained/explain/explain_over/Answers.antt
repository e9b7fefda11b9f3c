use Rattle.std.proofs.Common.{◌∙◌, ◌≡◌, Bool, IfOk, List, ℕ, ap, is_none, refl, rules, subst, sym}
use Rattle.h2_conn.specs.Connection.{Connection, going}
use Rattle.h2_serve.specs.Drives.{Drives, drive_state}
use Rattle.h2_serve.proofs.Exchanges.{taken-no_item}
use Rattle.h2_serve.specs.Faults.{failed_by}
use Rattle.h2_serve.specs.ExplainedConns.{whole}
use Rattle.h2_serve.proofs.Watching.{flag-read, grew-read, said-new, shown-read, watched-new}
use Rattle.h2_serve.proofs.explained.explain.explain_over.Goals as goal

pub drive_with-end-requires-clause-ready : goal.drive_with-end-requires-clause-ready
drive_with-end-requires-clause-ready g c =
    let none = taken-no_item c.args.conn (sym c.failed.ensures.value ∙ c.if-failed.false) (c.failed.ensures.no_item c.if-failed.false) c.failed.ensures.over in
    let lines = c.new-printer.ensures.lines in (
      watched-new c.args.form c.args.conn c.in-Ok-new.explanation c.requires.new c.in-Ok-new.ensures none,
      ap g.O.Output.has_failed c.new-printer.ensures.output ∙ c.requires.writer ∙ sym (ap failed_by lines.3),
    )

pub returns-clause-drives : goal.returns-clause-drives
returns-clause-drives g c =
    let w = c.drive_with-end.new.driven in
    let wire = c.args.wire.now in
    let after = c.drive_with-end.new.wire in
    let last : Connection = whole w.failed w.conn.state w.explanation.held.items in
    record {
      last = last;
      drives =
          subst (λ (d : Connection). Drives c.args.turns
          (drive_state (g.S.Wire.octets_read wire) (g.S.Wire.octets_written wire) (g.S.Wire.read_lengths wire) c.args.out.now d)
          (drive_state (g.S.Wire.octets_read after) (g.S.Wire.octets_written after) (g.S.Wire.read_lengths after) c.drive_with-end.new.out last)
          c.drive_with-end.result)
          (ap (λ (h : List ℕ). going c.args.conn.state h) c.in-Ok-new.ensures.held_is)
          c.drive_with-end.ensures.drives;
      ends = c.drive_with-end.ensures.ends;
      flag = c.drive_with-end.ensures.flag;
    }

pub returns-clause-shows : goal.returns-clause-shows
returns-clause-shows g c =
    let drove = c.drive_with-end.ensures.passes in
    let went = drove.2 refl in
    let lines = c.new-printer.ensures.lines in
    let same = c.finish-conclusion.ensures.same_reference ∙ went.3 ∙ c.new-printer.ensures.same_reference in
    shown-read c.args.form c.args.number c.finish-conclusion.result.0 _ c.drive_with-end.new.driven.failed c.args.conn.state drove.0 c.args.conn _
    c.in-Ok-new.explanation _ _ _ _ _ _ _ _ _ (g.O.Output.written c.new-printer.result.output.now) _ (g.O.Output.written c.finish-conclusion.result.1.now) _ _ _ _
    (search rules) (search rules) drove.1 went.0 (ap (λ v. v.items) lines.0 ∙ c.in-Ok.ensures) lines.1 lines.2 went.1 went.2
    (said-new c.args.form c.args.conn c.in-Ok-new.explanation c.requires.new c.in-Ok-new.ensures) went.4 c.finish-conclusion.ensures.ended

pub returns-clause-lost : goal.returns-clause-lost
returns-clause-lost g c =
    let went = c.drive_with-end.ensures.passes.2 refl in
    subst (λ (f : Bool). IfOk c.finish-conclusion.result.0 (λ x. is_none x.summary ≡ f)) went.0 c.finish-conclusion.ensures.lost

pub returns-clause-flag : goal.returns-clause-flag
returns-clause-flag g c =
    let went = c.drive_with-end.ensures.passes.2 refl in
    let same = c.finish-conclusion.ensures.same_reference ∙ went.3 ∙ c.new-printer.ensures.same_reference in
    flag-read (g.O.Output.has_failed c.finish-conclusion.result.1.now) _ _ (search rules) c.finish-conclusion.ensures.flag

pub returns-clause-grew : goal.returns-clause-grew
returns-clause-grew g c =
    let went = c.drive_with-end.ensures.passes.2 refl in
    let same = c.finish-conclusion.ensures.same_reference ∙ went.3 ∙ c.new-printer.ensures.same_reference in
    grew-read _ _ (g.O.Output.written c.new-printer.result.output.now) _ (g.O.Output.written c.finish-conclusion.result.1.now) _ _ _
    (search rules) (search rules) went.5 c.finish-conclusion.ensures.grew
