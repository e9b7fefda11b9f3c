use Rattle.h2_explain_item.specs.Changes.{is_other}
use Rattle.h2_explain_item.proofs.ChangeLaws.{filter_four}
use Rattle.h2_explain_item.proofs.change.changes.put_connection.Goals as goal

pub returns : goal.returns
returns g c = filter_four is_other c.args.out.now.items c.put_changed.new.out.items c.put_changed-2.new.out.items c.put_changed-3.new.out.items c.put_changed-4.new.out.items
    _ _ _ _ _ _ _ _ c.counts_table.ensures c.client_table.ensures c.own_table.ensures c.header_table.ensures
    (c.in_ok-put_changed.ensures) (c.in_ok-put_changed-2.ensures) (c.in_ok-put_changed-3.ensures) (c.in_ok-put_changed-4.ensures)
