use Rattle.h2_serve.specs.Passes.{grew-none}
use Rattle.h2_serve.proofs.server.listen.Goals as goal

pub returns-in-Err-clause-grew : goal.returns-in-Err-clause-grew
returns-in-Err-clause-grew g c = λ well. grew-none _
