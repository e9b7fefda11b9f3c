use Rattle.std.proofs.Common.{◌∙◌, ◌+◌, arith, rules}
use Rattle.indexmap.proofs.CallerLemmas.{filter-RetainsPairs}
use Rattle.h2_streams.proofs.LiveLaws.{kept-count, kept-entries, swept-count, swept-entries}
use Rattle.h2_streams.proofs.lookup.live.note_ended.Goals as goal

pub returns-then-listed-ended-clause-entries : goal.returns-then-listed-ended-clause-entries
returns-then-listed-ended-clause-entries g c = kept-entries (c.args.ended + 1) c.args.records.now c.args.live.now.entries (omega (arith, c.len-listed.ensures.len, c.if-listed-ended.true))

pub returns-then-listed-ended-clause-ended : goal.returns-then-listed-ended-clause-ended
returns-then-listed-ended-clause-ended g c = kept-count (c.args.ended + 1) c.args.live.now.entries (omega (arith, c.len-listed.ensures.len, c.if-listed-ended.true))

pub returns-clause-entries : goal.returns-clause-entries
returns-clause-entries g c =
    filter-RetainsPairs _ _ _ (λ k v b w h call. search rules) _ _ c.retain.ensures.filtered
    ∙ swept-entries (c.args.ended + 1) c.args.records.now c.args.live.now.entries (omega (arith, c.len-listed.ensures.len, c.if-listed-ended.false))

pub returns-clause-ended : goal.returns-clause-ended
returns-clause-ended g c = swept-count (c.args.ended + 1) c.args.live.now.entries (omega (arith, c.len-listed.ensures.len, c.if-listed-ended.false))
