use Rattle.std.proofs.Common.{◌≡◌, ◌∙◌, ◌<◌, ◌+◌, [], ◌∷◌, ◌++◌, Some, None, length, drop, get_or, sym, ap, arith}
use Rattle.std.proofs.lemmas.Bool.{false≢true}
use Rattle.toml.specs.View.{view, items_view}
use Rattle.toml.proofs.Views.{items_view-drop}
use Rattle.h2_spec.specs.Hpack.Field.{Field, field}
use Rattle.h2_cmd_book_file.specs.AnswerTable.{header_said, headers_in}
use Rattle.h2_cmd_book_file.proofs.Headers.{fields_after, fields-next, fields-none}
use Rattle.h2_cmd_book_file.proofs.header.read_headers.Goals as goal
use Rattle.h2_cmd_book_file.proofs.header.read_headers.Goals.{in-Some+in_ok-field_from+in_ok-push, in_default}

pub loop-pair-preserved : goal.loop-pair-preserved
loop-pair-preserved c =
    let pairs = c.args.pairs.now in
    let i = c.loop-pair.pair-index in
    let fields = c.loop-pair.fields.items in
    let inside : i < length pairs = omega arith in
    let pair = get_or pairs i c.pair-item.result in
    let more = items_view (drop (i + 1) pairs) in
    let next = items_view-drop pairs i c.pair-item.result inside in
    let same = ap view c.pair-item.is in
    elim c.match-header_in.branch [
      | in-Some+in_ok-field_from+in_ok-push w ↦
          let named = field w.in-Some.name.now w.in-Some.value.now in
          let said : Some named ≡ header_said (view pair) = w.in-Some.ensures ∙ ap header_said same in
          let pushed : w.push.new.self.items ≡ fields ++ named ∷ [] = w.in_ok-push.ensures.items ∙ ap (λ (f : Field). fields ++ f ∷ []) w.in_ok-field_from.ensures in
          rw (w.fields-is, pushed) (sym (fields-next fields (view pair) more named said) ∙ ap (fields_after fields) (sym next) ∙ c.loop-pair.invariant)
      | in_default w ↦
          let said : None ≡ header_said (view pair) = w.in_default.ensures ∙ ap header_said same in
          let none : headers_in (items_view pairs) ≡ None = sym c.loop-pair.invariant ∙ ap (fields_after fields) next ∙ fields-none fields (view pair) more said in
          let some = rw none at c.requires in
          absurd (false≢true some)
    ]
