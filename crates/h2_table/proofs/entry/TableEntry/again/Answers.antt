use Rattle.std.proofs.Common.{ap, ◌∙◌, sym}
use Rattle.std.proofs.lemmas.Result.{IfOk-from_err}
use Rattle.h2_hpack_validity.specs.Mark.{mark_of}
use Rattle.h2_table.proofs.Entries.{joined-shown, joined-within}
use Rattle.h2_table.proofs.entry.TableEntry.again.Goals as goal

pub returns-in_err-refilled : goal.returns-in_err-refilled
returns-in_err-refilled g c = IfOk-from_err c.from_residual.result _ c.from_residual.ensures.0

pub invariant_of-result : goal.invariant_of-result
invariant_of-result g c =
    let name = c.args.name.now in
    let value = c.args.value.now in
    let octets = c.in_ok-refilled.field-0.items in
    let shown = joined-shown name value octets c.new-none.result.items c.in_ok-refilled.ensures c.new-none.ensures.items in
    (joined-within name value octets c.in_ok-refilled.ensures, λ _. c.new-none.ensures.items, c.requires.marked ∙ ap mark_of (sym shown))

pub returns : goal.returns
returns g c = joined-shown c.args.name.now c.args.value.now c.in_ok-refilled.field-0.items c.new-none.result.items c.in_ok-refilled.ensures c.new-none.ensures.items
