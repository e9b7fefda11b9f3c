use Rattle.std.proofs.Common.{◌∙◌, inl, inr, ap}
use Rattle.h2_debug.specs.SessionFaults.{fault_number}
use Rattle.h2_debug.specs.Reading.{ahead}
use Rattle.h2_debug.specs.Session.{failed}
use Rattle.h2_debug.specs.declared.commands.session_fault.SessionFault.{SessionFault}
use Rattle.h2_debug.proofs.Ahead.{none-held}
use Rattle.h2_debug.proofs.Beginning.{session-cut, session-responded}
use Rattle.h2_debug.proofs.commands.session.debug_session.Goals as goal

pub returns-in-Err-clause-printed : goal.returns-in-Err-clause-printed
returns-in-Err-clause-printed g c = λ well octets held knows out.
    let start = none-held c.new-reader.result.held _ c.new-reader.ensures.0 ∙ knows in
    let printed = c.refuse.ensures.printed well held out in (
      failed (fault_number c.in-Err.fault),
      elim c.in-Err.ensures.err [
        | inl none ↦ inl (ap (λ (f : SessionFault). failed (fault_number f)) none.0, none.1)
        | inr x ↦ rw x.0 (session-cut c.args.book.now c.args.config octets _ _ _ _ start c.new-reader.ensures.1 x.1)
      ],
      printed,
    )

pub returns-in-Ok-clause-printed : goal.returns-in-Ok-clause-printed
returns-in-Ok-clause-printed g c = λ well octets held knows out.
    let start = none-held c.new-reader.result.held _ c.new-reader.ensures.0 ∙ knows in
    let rest = g.I.Input.remaining c.respond-status.new.input in
    session-responded c.args.book.now c.args.config octets held c.take_line.new.line.items c.load-loaded.result c.in-Ok.end c.new-reader.result.passed c.take_line.new.reader.passed
    (ahead c.new-reader.result (g.I.Input.remaining c.args.input.now)) (ahead c.take_line.new.reader (g.I.Input.remaining c.take_line.new.input)) rest
    (g.I.Input.has_failed c.respond-status.new.input) (g.O.Output.written c.respond-status.new.output) c.respond-status.result start c.new-reader.ensures.1 c.in-Ok.ensures.within c.in-Ok.ensures.ok
    c.load-loaded.ensures.ok c.load-loaded.ensures.err (rw (well, out) at c.respond-status.ensures.ok) (rw (well, out) at c.respond-status.ensures.err) c.respond-status.ensures.unread c.respond-status.ensures.last
