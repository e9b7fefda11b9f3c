use Rattle.std.proofs.Common.{inl}
use Rattle.h2_embed.proofs.connection.h2_bench_kept_open.Goals as goal

pub returns-in-Ok : goal.returns-in-Ok
returns-in-Ok c = inl (c.in-Ok.kept.value, c.put.ensures, c.in-Ok.ensures.ok.1, c.given.ensures)
