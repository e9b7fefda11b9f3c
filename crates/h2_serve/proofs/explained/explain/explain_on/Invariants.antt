use Rattle.std.proofs.Common.{◌≡◌, [], false}
use Rattle.h2_serve.specs.Ports.{start_of}
use Rattle.h2_serve.specs.Shown.{GainsAllShown}
use Rattle.h2_serve.proofs.explained.explain.explain_on.Given as goal

abbrev pub invariant-loop-served : goal.invariant-loop-served
invariant-loop-served g l =
    record {
      shown : GainsAllShown l.form (start_of l.book l.config) [] l.served l.clients (g.O.Output.written l.fn.output) (g.O.Output.written l.output)
          (g.L.Listener.events l.fn.listener) (g.L.Listener.events l.listener);
      writer : g.O.Output.has_failed l.output ≡ false;
    }
