use Rattle.h2_serve.specs.Ports.{start_of}
use Rattle.h2_serve.proofs.ServeLemmas.{listens, listens-some}
use Rattle.h2_serve.proofs.server.listen_and_serve.Goals as goal

pub returns-clause-lines : goal.returns-clause-lines
returns-clause-lines g c =
    listens (start_of c.args.book.now c.args.config) _ c.args.port c.args.count _ (g.O.Output.written c.listen.new.output) _ _ (g.P.Listener.events c.listen.new.net) _ _
    c.in_ok-listen.ensures.ok c.in_ok-listen.ensures.wires c.serve_over.ensures.refused c.serve_over.ensures.allowed c.serve_over.ensures.lines

pub returns-clause-wires : goal.returns-clause-wires
returns-clause-wires g c =
    listens-some (start_of c.args.book.now c.args.config) c.args.port c.args.count _ (g.P.Listener.events c.listen.new.net) _ c.in_ok-listen.ensures.wires c.serve_over.ensures.wires
