use Rattle.std.proofs.Common.{◌≡◌, ◌∙◌, ◌&&◌, not, bytes_eq, codes, map, ap, refl}
use Rattle.std.specs.Char.{to_ascii_lowercase}
use Rattle.h2_spec.specs.Hpack.Field.{field}
use Rattle.h2_spec.specs.Requests.Request.{has_bad_name, has_bad_te}
use Rattle.h2_hpack_validity.specs.Mark.{mark_of, is_other, is_te}
use Rattle.h2_hpack_validity.proofs.KnownNames.{name-marked, te-marked}
use Rattle.h2_hpack_validity.proofs.mark.FieldMark.of.Goals as goal

pub returns : goal.returns
unfolding mark_of
returns c =
    let f = field c.args.name.now c.args.value.now in
    let other = not (bytes_eq (map to_ascii_lowercase c.args.value.now) (codes "trailers")) in
    let name : c.has_bad_name.result ≡ has_bad_name f = c.has_bad_name.ensures ∙ ap (λ k. is_other k && has_bad_name f) c.of-known.ensures ∙ name-marked c.args.name.now c.args.value.now in
    let te : c.has_bad_te.result ≡ has_bad_te f = c.has_bad_te.ensures ∙ ap (λ k. is_te k && other) c.of-known.ensures ∙ te-marked c.args.name.now other in
    rw (name, te, c.is_bad_value.ensures, c.of-known.ensures) refl
