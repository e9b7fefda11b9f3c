use Rattle.std.proofs.Common.{◌≡◌, [], false}
use Rattle.h2_serve.specs.Ports.{start_of}
use Rattle.h2_serve.specs.Serves.{Serves}
use Rattle.h2_serve.proofs.server.serve_over.Given as goal

abbrev pub invariant-loop-served : goal.invariant-loop-served
invariant-loop-served g l =
    record {
      lines : Serves (start_of l.book l.config) [] l.served (g.O.Output.written l.fn.output) (g.O.Output.written l.output)
          (g.L.Listener.events l.fn.listener) (g.L.Listener.events l.listener);
      writer : g.O.Output.has_failed l.output ≡ false;
      name : g.O.Output.name l.output ≡ g.O.Output.name l.fn.output;
    }
