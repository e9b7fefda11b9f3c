use Rattle.std.proofs.Common.{arith, ap, sym, ◌∙◌, ◌≡◌, length}
use Rattle.h2_spec.specs.Hpack.Field.{field}
use Rattle.h2_hpack_validity.specs.Mark.{mark_of}
use Rattle.h2_table.proofs.Entries.{apart-shown}
use Rattle.h2_table.proofs.entry.TableEntry.new.Goals as goal

pub invariant_of-result : goal.invariant_of-result
invariant_of-result g c =
    let name = c.args.name.items in
    let value = c.args.value.items in
    let count : c.len-name_len.result ≡ length name = c.len-name_len.ensures ∙ sym c.as_slice.ensures.len ∙ ap length c.as_slice.ensures.value in
    let shown = apart-shown name value c.len-name_len.result count in
    (omega (arith, count), λ less. absurd (omega (arith, less, count)), c.of-mark.ensures ∙ ap mark_of ((λ k. field (c.as_slice.ensures.value k) (c.as_slice-2.ensures.value k)) ∙ sym shown))

pub returns : goal.returns
returns g c = apart-shown c.args.name.items c.args.value.items c.len-name_len.result (c.len-name_len.ensures ∙ sym c.as_slice.ensures.len ∙ ap length c.as_slice.ensures.value)
