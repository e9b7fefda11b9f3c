use Rattle.std.proofs.Common.{List, ℕ, ap, ◌∙◌, sym}
use Rattle.h2_spec.specs.Hpack.Field.{field}
use Rattle.h2_hpack_validity.specs.Mark.{mark_of}
use Rattle.h2_table.proofs.dynamic_table.lend.Goals as goal

pub returns-clause-field : goal.returns-clause-field
returns-clause-field g c = ap (λ (n : List ℕ). field n c.value.result.now) c.name.ensures ∙ ap (field c.args.entry.now.name) c.value.ensures

pub returns-clause-marked : goal.returns-clause-marked
returns-clause-marked g c =
    c.mark.ensures ∙ sym (ap mark_of (ap (λ (n : List ℕ). field n c.value.result.now) c.name.ensures ∙ ap (field c.args.entry.now.name) c.value.ensures))
