use Rattle.std.proofs.Common.{◌≡◌, ◌∙◌, ◌+◌, drop, sym, ap, arith}
use Rattle.std.specs.Option.{option_map}
use Rattle.h2_explain_item.specs.FollowedTable.{Following, fields_followed, following}
use Rattle.h2_explain_item.specs.ShownBlock.{field_seen, fields_seen}
use Rattle.h2_explain_item.proofs.FollowedLaws.{fields-step, none-within}
use Rattle.h2_explain_item.proofs.change.header_table.Followed.follow_fields.Goals.{in-Some+in_ok-follow_field, in_default}
use Rattle.h2_explain_item.proofs.change.header_table.Followed.follow_fields.Goals as goal

pub loop-place-preserved : goal.loop-place-preserved
loop-place-preserved g c =
    let xs = (fields_seen c.args.fields).shown in
    let place = c.loop-place.place in
    let item = c.args.item in
    let listed = c.args.listed in
    let rest : Following → Following = fields_followed item listed (place + 1) (drop (place + 1) xs) in
    elim c.match-get.branch [
      | in-Some+in_ok-follow_field w ↦
          ap (λ s. rest (following s c.match-get.out.items)) w.self-is ∙ ap (λ o. rest (following w.follow_field.new.self o.items)) w.out-is ∙ ap rest w.in_ok-follow_field.ensures ∙ sym (fields-step item listed xs place (field_seen w.in-Some.field) (following c.loop-place.self c.loop-place.out.items) w.in-Some.ensures) ∙ c.loop-place.invariant
      | in_default w ↦
          absurd (none-within xs place (sym (ap (λ r. option_map field_seen r) w.in_default.is) ∙ c.get.ensures) (omega (arith, c.loop-place-test.true, c.len-place-end.ensures)))
    ]
