use Rattle.std.proofs.Common.{◌≡◌, ◌∙◌, ap, length, refl, sym}
use Rattle.std.specs.Prelude.{if◌then◌else◌}
use Rattle.h2_cmd_check.specs.Commands.{is_present, left_with}
use Rattle.h2_cmd_check.specs.declared.case_debugger.CaseDebugger.{CaseDebugger}
use Rattle.h2_cmd_check.specs.declared.case_debugger.CaseDebugger.TheVariants.{Absent}
use Rattle.h2_cmd_check.proofs.walk.Walk.leave.Goals as goal

pub returns-then-is_absent : goal.returns-then-is_absent
returns-then-is_absent c =
    let w = c.args.self.now in
    let none : c.args.self.now.debugger ≡ Absent = c.is_absent.ensures c.if-is_absent.true in
    record {
      found = refl;
      octets = refl;
      at = refl;
      seen = refl;
      speaks = refl;
      debugger = none ∙ sym (ap (λ (d : CaseDebugger). left_with c.args.more.now d) none);
      spoken = sym (ap (λ (d : CaseDebugger). if is_present d then length w.seen.sent.items else w.spoken) none);
    }
