use Rattle.std.proofs.Common.{◌≡◌, drop}
use Rattle.h2_explain_item.specs.FollowedTable.{fields_followed, following}
use Rattle.h2_explain_item.specs.ShownBlock.{fields_seen}
use Rattle.h2_explain_item.proofs.change.header_table.Followed.follow_fields.Given as goal

abbrev pub invariant-loop-place : goal.invariant-loop-place
invariant-loop-place g l =
    let xs = (fields_seen l.fields).shown in
    fields_followed l.item l.listed l.place (drop l.place xs) (following l.self l.out.items) ≡ fields_followed l.item l.listed l.fn.self.fields (drop l.fn.self.fields xs) (following l.fn.self l.fn.out.items)
