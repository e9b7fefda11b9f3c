use Rattle.std.proofs.Common.{◌≡◌, ◌∙◌, ◌&&◌, not, bytes_eq, codes, map, ap, refl}
use Rattle.std.specs.Char.{to_ascii_lowercase}
use Rattle.h2_spec.specs.Hpack.Field.{field}
use Rattle.h2_spec.specs.Requests.Request.{has_bad_te}
use Rattle.h2_hpack_validity.specs.Mark.{mark_of, is_te}
use Rattle.h2_hpack_validity.specs.declared.mark.FieldMark.{FieldMark}
use Rattle.h2_hpack_validity.proofs.KnownNames.{te-marked}
use Rattle.h2_hpack_validity.proofs.mark.FieldMark.with_value.Goals as goal

pub returns : goal.returns
unfolding mark_of
returns c = λ f same.
    let other = not (bytes_eq (map to_ascii_lowercase c.args.value.now) (codes "trailers")) in
    let te : c.has_bad_te.result ≡ has_bad_te (field f.name c.args.value.now) = c.has_bad_te.ensures ∙ ap (λ (m : FieldMark). is_te m.known && other) same ∙ te-marked f.name other in
    rw (te, c.is_bad_value.ensures, same) refl
