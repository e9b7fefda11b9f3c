use Rattle.h2_serve.specs.Passes.{prints-none}
use Rattle.h2_serve.proofs.explained.numbered.Printer.print_gathered.Goals as goal

pub returns-then-text-clause-text : goal.returns-then-text-clause-text
returns-then-text-clause-text g c =
    let p = c.args.self.now in
    rw c.if-text.true (prints-none p.prefix.items p.json p.fresh p.fault (g.O.Output.written p.output.now))
