use Rattle.h2_serve.specs.Lines.{listening_line}
use Rattle.h2_serve.specs.Passes.{grew-more}
use Rattle.h2_serve.specs.Ports.{start_of}
use Rattle.h2_serve.proofs.ServeLemmas as serving
use Rattle.h2_serve.proofs.ShownLemmas.{listens-limits, listens-shown, listens-some}
use Rattle.h2_serve.proofs.explained.explain.listen_and_explain.Goals as goal

pub returns-clause-shown : goal.returns-clause-shown
returns-clause-shown g c =
    listens-shown _ _ (start_of c.args.book.now c.args.config) c.args.port c.args.count _ (g.O.Output.written c.listen.new.output) _ _ (g.P.Listener.events c.listen.new.net) _ _ c.in_ok-listen.ensures.ok
    c.in_ok-listen.ensures.wires c.explain_on.ensures.refused c.explain_on.ensures.shown

pub returns-clause-wires : goal.returns-clause-wires
returns-clause-wires g c =
    serving.listens-some (start_of c.args.book.now c.args.config) c.args.port c.args.count _ (g.P.Listener.events c.listen.new.net) _ c.in_ok-listen.ensures.wires c.explain_on.ensures.wires

pub returns-clause-allowed : goal.returns-clause-allowed
returns-clause-allowed g c =
    listens-limits _ (listening_line c.args.port) _ (g.O.Output.written c.listen.new.output) _ _ _ c.explain_on.result c.in_ok-listen.ensures.ok c.explain_on.ensures.allowed

pub returns-clause-socket : goal.returns-clause-socket
returns-clause-socket g c =
    listens-some _ (start_of c.args.book.now c.args.config) (listening_line c.args.port) c.args.count _ (g.O.Output.written c.listen.new.output) _ _ (g.P.Listener.events c.listen.new.net) _ c.explain_on.result c.in_ok-listen.ensures.ok
    c.in_ok-listen.ensures.wires c.explain_on.ensures.socket

pub returns-clause-grew : goal.returns-clause-grew
returns-clause-grew g c = λ well.
    grew-more _ (g.O.Output.written c.listen.new.output) _ (listening_line c.args.port, c.in_ok-listen.ensures.ok) (c.explain_on.ensures.grew well)
