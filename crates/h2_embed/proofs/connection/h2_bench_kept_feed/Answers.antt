use Rattle.h2_embed.proofs.Feeding.{feeds-held}
use Rattle.h2_embed.proofs.connection.h2_bench_kept_feed.Goals as goal

pub returns-in-Ok-clause-fed : goal.returns-in-Ok-clause-fed
returns-in-Ok-clause-fed c =
    feeds-held _ _ _ _ _ _ _ _ _ _ _ c.in-Some.ensures.kept c.deref_mut.ensures.value c.in-Ok.ensures.goes c.deref_mut-in-Ok.ensures.value c.give-count.ensures.given
    c.put.ensures
