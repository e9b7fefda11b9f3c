use Rattle.std.proofs.Common.{arith, rules, ◌≡◌, None, Some, length}
use Rattle.std.specs.Prelude.{slice_get}
use Rattle.h2_spec.specs.Hpack.Field.{field}
use Rattle.h2_conn_view.proofs.Views.{fewer-left, taken-all, taken-next}
use Rattle.h2_conn_view.proofs.view.entries_of.Goals as goal

pub entry_at-requires : goal.entry_at-requires
entry_at-requires g c = record { few = omega (arith, c.len.ensures, c.loop-name.fields.ok.1, c.loop-name.fields.small) }

pub loop-name-smaller : goal.loop-name-smaller
loop-name-smaller g c =
    let at : slice_get c.args.table.now.table.entries (length c.loop-name.fields.items) ≡ Some (field c.in-Some.name.now c.in-Some.value.now) = search rules in
    fewer-left c.args.table.now.table.entries c.loop-name.fields.items c.push.new.self.items (field c.in-Some.name.now c.in-Some.value.now) _ (search rules) at

pub loop-name-preserved : goal.loop-name-preserved
loop-name-preserved g c =
    let at : slice_get c.args.table.now.table.entries (length c.loop-name.fields.items) ≡ Some (field c.in-Some.name.now c.in-Some.value.now) = search rules in
    taken-next c.args.table.now.table.entries c.loop-name.fields.items c.push.new.self.items (field c.in-Some.name.now c.in-Some.value.now) (search rules) at c.loop-name.invariant

pub returns : goal.returns
returns g c =
    let none : slice_get c.args.table.now.table.entries (length c.loop-name.fields.items) ≡ None = search rules in
    taken-all c.args.table.now.table.entries c.loop-name.fields.items none c.loop-name.invariant
