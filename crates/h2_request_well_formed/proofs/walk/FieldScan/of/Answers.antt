use Rattle.std.proofs.Common.{◌≡◌, ◌∙◌, Some, None, [], arith, get_or, ap, sym}
use Rattle.std.specs.Prelude.{slice_get}
use Rattle.std.proofs.lemmas.Option.{none-some, slice_get-get_or}
use Rattle.h2_hpack_validity.specs.Mark.{mark_of}
use Rattle.h2_hpack_validity.specs.declared.mark.FieldMark.{FieldMark}
use Rattle.h2_spec.specs.Hpack.Field.{Field, field}
use Rattle.h2_table.specs.Lent.{field_lent}
use Rattle.h2_request_well_formed.specs.Fields.{fields_in}
use Rattle.h2_request_well_formed.specs.Marked.{marked_by, noted_by, measured_by}
use Rattle.h2_request_well_formed.specs.Walk.{pseudo_of}
use Rattle.h2_request_well_formed.proofs.MarkedFields.{marked-by, noted-by, measured-by}
use Rattle.h2_request_well_formed.proofs.Seen.{marks-walked, pseudo-walked, length-walked}
use Rattle.h2_request_well_formed.proofs.walk.FieldScan.of.Goals as goal
use Rattle.h2_request_well_formed.proofs.walk.FieldScan.of.Goals.{in-Some, in_default}

pub loop-place-preserved : goal.loop-place-preserved
loop-place-preserved g c =
    let fields = fields_in c.args.fields.now in
    let i = c.loop-place.place in
    let before = c.loop-place.invariant in
    let now = c.match-get in
    elim now.branch [
      | in-Some w ↦
          let f : Field = field_lent w.in-Some.found in
          let mark : w.in-Some.found.mark ≡ mark_of f = w.in-Some.ensures.marked in
          let at : slice_get fields i ≡ Some f = sym w.in-Some.ensures.field in
          record {
            marks = marks-walked fields i f _ now.marks at (w.marks-is ∙ w.with-marks.ensures ∙ ap (marked_by c.loop-place.marks) mark ∙ marked-by c.loop-place.marks f) before.marks;
            pseudo = pseudo-walked fields i f _ (pseudo_of now.pseudo) at (ap pseudo_of w.pseudo-is ∙ w.note.ensures ∙ ap (λ (k : FieldMark). noted_by (pseudo_of c.loop-place.pseudo) k.known f.value) mark ∙ noted-by (pseudo_of c.loop-place.pseudo) f) before.pseudo;
            length = length-walked fields i f _ now.length at (w.length-is ∙ w.with-length.ensures ∙ ap (λ (k : FieldMark). measured_by c.loop-place.length k.known f.value) mark ∙ measured-by c.loop-place.length f) before.length;
          }
      | in_default w ↦
          let inside : slice_get fields i ≡ Some (get_or fields i (field [] [])) = slice_get-get_or fields i (field [] []) (omega (arith, c.loop-place-test.true, c.len-count.ensures)) in
          let none : None ≡ slice_get fields i = w.in_default.ensures.field in
          absurd (none-some (get_or fields i (field [] [])) (none ∙ inside))
    ]
