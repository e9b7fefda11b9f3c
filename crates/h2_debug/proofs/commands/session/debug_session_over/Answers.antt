use Rattle.std.proofs.Common.{◌∙◌}
use Rattle.h2_debug.specs.Reading.{ahead}
use Rattle.h2_debug.proofs.Ahead.{none-held}
use Rattle.h2_debug.proofs.Beginning.{over-responded}
use Rattle.h2_debug.proofs.commands.session.debug_session_over.Goals as goal

pub returns-clause-printed : goal.returns-clause-printed
returns-clause-printed g c = λ well octets held knows out.
    let start = none-held c.new-reader.result.held _ c.new-reader.ensures.0 ∙ knows in
    over-responded c.args.book.now c.args.config octets held c.args.peer.items c.load_octets-debugger.result c.new-reader.result.passed
    (ahead c.new-reader.result (g.I.Input.remaining c.args.input.now)) (g.I.Input.remaining c.respond-status.new.input)
    (g.I.Input.has_failed c.respond-status.new.input) (g.O.Output.written c.respond-status.new.output) c.respond-status.result start c.new-reader.ensures.1
    c.load_octets-debugger.ensures.ok c.load_octets-debugger.ensures.err (rw (well, out) at c.respond-status.ensures.ok) (rw (well, out) at c.respond-status.ensures.err) c.respond-status.ensures.unread
