use Rattle.std.proofs.Common.{refl, sym, ap, subst, ◌∙◌, max}
use Rattle.h2_spec.specs.declared.reactions.StreamOutcome.{StreamOutcome}
use Rattle.h2_streams.specs.Put.{CanPut}
use Rattle.h2_conn_rules.specs.Sound.{IsCalm, in_force}
use Rattle.h2_conn.proofs.BlockLaws.{reset-put}
use Rattle.h2_conn.proofs.field_block.block_end.closed_end.Goals as goal

pub returns-clause-sound : goal.returns-clause-sound
returns-clause-sound g c =
    let a = c.args in
    let r = a.streams.now in
    let outcome = c.stream_error-outcome.ensures in
    let calm = subst (IsCalm a.core) (sym c.only_counts.ensures) (c.requires.sound.counts, refl, refl) in
    let put = reset-put r a.id c.requires.open in
    let can = let P : StreamOutcome → Type 0 = λ t. CanPut t.stream r in subst P (sym outcome.rule) put.0 in
    let last = sym c.requires.sound.last ∙ put.1 ∙ ap (λ i. max r.last i) (sym outcome.id) in
    c.with_outcome.ensures.sound a.book.now r a.core calm last (outcome.sound (in_force a.core)) (outcome.waits a.book.now) can outcome.recorded
