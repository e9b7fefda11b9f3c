use Rattle.std.proofs.Common.{◌-◌, ◌∙◌, ap}
use Rattle.std.specs.Prelude.{slice_get}
use Rattle.h2_spec.specs.Hpack.Field.{Field}
use Rattle.h2_table.proofs.static_table.static_field.Goals as goal
use Rattle.h2_table.proofs.StaticEntries.{none_at_0, from_place}

pub returns-then-i-eq0 : goal.returns-then-i-eq0
returns-then-i-eq0 c = none_at_0 c.args.i c.if-i-eq0.true

pub returns-else-i-eq0 : goal.returns-else-i-eq0
returns-else-i-eq0 c = c.entry_of.ensures ∙ ap (λ es. slice_get {X = Field} es (c.args.i - 1)) c.entries.ensures ∙ from_place c.args.i c.if-i-eq0.false
