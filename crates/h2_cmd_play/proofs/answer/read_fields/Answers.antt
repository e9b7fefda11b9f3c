use Rattle.std.proofs.Common.{◌≡◌, ◌∙◌, ◌∷◌, [], ◌++◌, List, sym, ap}
use Rattle.h2_spec.specs.Hpack.Field.{Field, field}
use Rattle.h2_cmd_play.specs.AnswerParts.{parts_behind}
use Rattle.h2_cmd_play.proofs.AnswerTexts.{fields_after, fields-next}
use Rattle.h2_cmd_play.proofs.answer.read_fields.Goals as goal

pub loop-part-preserved-in_ok-push : goal.loop-part-preserved-in_ok-push
loop-part-preserved-in_ok-push g c =
    let fields = c.loop-part.fields.items in
    let named = field c.in-Some-field_in.name.now c.in-Some-field_in.value.now in
    let more = parts_behind c.in-Some.more.now in
    let pushed : c.push.new.self.items ≡ fields ++ named ∷ [] = c.in_ok-push.ensures.items ∙ ap (λ (f : Field). fields ++ f ∷ []) c.in_ok-field_from.ensures in
    ap (λ (fs : List Field). fields_after fs more) pushed
    ∙ sym (fields-next fields c.in-Some.part.now more named c.in-Some-field_in.ensures)
    ∙ ap (fields_after fields) (sym c.in-Some.ensures.some) ∙ c.loop-part.invariant
