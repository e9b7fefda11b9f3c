use Rattle.h2_cmd_run.proofs.Suites.{appended}
use Rattle.h2_cmd_run.proofs.junit.print_results.Goals as goal

pub returns-in-Ok-clause-printed : goal.returns-in-Ok-clause-printed
returns-in-Ok-clause-printed g c = λ well held is.
    let text = c.args.text.now in
    let grown = appended (g.O.Output.written c.args.output.now) (g.O.Output.written c.write.new.output) text held (c.write.ensures.octets (c.print_checked.ensures.kept well)) is in
    c.print_checked.ensures.printed well held text grown
