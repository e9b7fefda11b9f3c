use Rattle.std.proofs.KnownBytes.{Appends-kept}
use Rattle.h2_serve.specs.Passes.{gains-of}
use Rattle.h2_serve.proofs.server.print.Goals as goal

pub returns-in-Ok-flush-clause-ok : goal.returns-in-Ok-flush-clause-ok
returns-in-Ok-flush-clause-ok g c =
    gains-of _ _ _ (Appends-kept _ (g.O.Output.written c.write_to.new.output) _ _ c.in-Ok.ensures.octets c.in-Ok-flush.ensures.octets)

pub returns-in-Ok-flush-clause-grew : goal.returns-in-Ok-flush-clause-grew
returns-in-Ok-flush-clause-grew g c = λ well. (
  g.T.Text.text c.args.line.now,
  gains-of _ _ _ (Appends-kept _ (g.O.Output.written c.write_to.new.output) _ _ c.in-Ok.ensures.octets c.in-Ok-flush.ensures.octets),
)
