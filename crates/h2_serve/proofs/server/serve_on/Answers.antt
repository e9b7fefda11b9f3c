use Rattle.std.proofs.Common.{◌∙◌, rules}
use Rattle.h2_serve.specs.Ports.{start_of}
use Rattle.h2_serve.proofs.ServeLemmas.{serves-written}
use Rattle.h2_serve.proofs.server.serve_on.Goals as goal

pub returns-clause-lines : goal.returns-clause-lines
returns-clause-lines g c =
    let into = c.into_inner-writer.ensures.same_reference ∙ c.serve_over-served.ensures.name ∙ c.new-into.ensures.same_reference in
    serves-written (start_of c.args.book.now c.args.config) c.args.count (g.W.Write.contents c.new-into.result.inner.now) (g.W.Write.contents c.serve_over-served.new.output.inner.now)
    _ _ _ _ c.serve_over-served.result (search rules) (search rules) c.serve_over-served.ensures.lines
