use Rattle.std.proofs.Common.{◌+◌, ◌∙◌, [], arith, refl}
use Rattle.h2_serve.specs.Ports.{start_of}
use Rattle.h2_serve.proofs.ServeLemmas.{handles-then, lines-more, no-lines}
use Rattle.h2_serve.proofs.server.serve_over.Goals as goal

pub loop-served-init : goal.loop-served-init
loop-served-init g c = record { lines = no-lines (start_of c.args.book.now c.args.config) _ _; writer = c.requires.writer; name = refl }

pub loop-served-preserved : goal.loop-served-preserved
loop-served-preserved g c =
    record {
      lines =
          lines-more (start_of c.args.book.now c.args.config) [] c.loop-served.served (c.loop-served.served + 1) _ (g.O.Output.written c.loop-served.output) _
          _ (g.L.Listener.events c.loop-served.listener) _ refl c.loop-served.invariant.lines c.in_ok-serve_next.ensures.lines;
      writer = c.in_ok-serve_next.ensures.flag;
      name = c.in_ok-serve_next.ensures.name ∙ c.loop-served.invariant.name;
    }

pub returns-in_err-serve_next-clause-wires : goal.returns-in_err-serve_next-clause-wires
returns-in_err-serve_next-clause-wires g c =
    let kept = c.loop-served.invariant.lines in
    handles-then (start_of c.args.book.now c.args.config) kept.0 c.loop-served.served 1 c.args.count _ _ _ kept.1 (omega (arith, c.loop-served-test.true)) kept.3
    c.in_err-serve_next.ensures.wires
