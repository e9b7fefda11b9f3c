use Rattle.std.proofs.Common.{◌∙◌, ap, option_map}
use Rattle.h2_spec.specs.Hpack.DynamicTable.{field_at}
use Rattle.h2_spec.specs.Hpack.Field.{Field}
use Rattle.h2_explain_item.specs.FollowedTable.{TableFollowed}
use Rattle.h2_explain_item.proofs.change.header_table.Followed.name_at.Goals as goal

pub returns-in-Some : goal.returns-in-Some
returns-in-Some g c =
    ap (option_map (λ (f : Field). f.name)) (c.in-Some.ensures ∙ ap (λ (f : TableFollowed). field_at c.args.index f.table.table.entries) c.self.view_is)

pub returns-in-None : goal.returns-in-None
returns-in-None g c =
    ap (option_map (λ (f : Field). f.name)) (c.in-None.ensures ∙ ap (λ (f : TableFollowed). field_at c.args.index f.table.table.entries) c.self.view_is)
