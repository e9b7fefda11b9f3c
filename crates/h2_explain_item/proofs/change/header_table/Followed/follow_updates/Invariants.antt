use Rattle.std.proofs.Common.{◌≡◌, drop}
use Rattle.h2_explain_item.specs.FollowedTable.{following, updates_followed}
use Rattle.h2_explain_item.proofs.change.header_table.Followed.follow_updates.Given as goal

abbrev pub invariant-loop-place : goal.invariant-loop-place
invariant-loop-place g l =
    updates_followed l.item (drop l.place l.updates) (following l.self l.out.items) ≡ updates_followed l.item (drop l.fn.self.updates l.updates) (following l.fn.self l.fn.out.items)
