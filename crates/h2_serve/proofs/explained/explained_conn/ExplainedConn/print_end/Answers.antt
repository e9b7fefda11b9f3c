use Rattle.std.proofs.Common.{Some}
use Rattle.h2_serve.specs.Passes.{prints-none}
use Rattle.h2_serve.proofs.Watching.{ends-as, ends-cut, ends-gathered}
use Rattle.h2_serve.proofs.explained.explained_conn.ExplainedConn.print_end.Goals as goal

pub returns-then-self-clause-ended : goal.returns-then-self-clause-ended
returns-then-self-clause-ended g c =
    let p = c.args.self.now.printer in
    ends-cut _ _ _ _ c.if-self.true (prints-none p.prefix.items p.json p.fresh p.fault (g.O.Output.written p.output.now))

pub returns-clause-ended : goal.returns-clause-ended
returns-clause-ended g c =
    ends-as _ _ (record { is_cut = c.is_err.result; summary = Some c.summary.result }) _ _ c.if-self.false
    (ends-gathered _ c.summary.result _ _ _ _ c.end-ended.result _ _ c.is_err.ensures.value c.new-text.ensures.0
    c.end-ended.ensures.flag c.end-ended.ensures.gains c.summary.ensures c.print_gathered.ensures.text)
