use Rattle.std.proofs.Common.{◌≡◌, ◌<◌, ◌++◌, List, [], ◌∷◌, length, take, ap, ◌∙◌, sym, refl, arith, None, slice_get, append_assoc, length-take-le}
use Rattle.h2_spec.specs.Hpack.Field.{Field, field}
use Rattle.h2_hpack_list.proofs.ListParts.{some-at}
use Rattle.h2_table.proofs.Copied.{copied_more}
use Rattle.h2_table.proofs.kept.put_run.Goals as goal
use Rattle.h2_table.proofs.kept.put_run.Goals.{in-Some+in_ok-entry, in_default}

pub loop-place-preserved : goal.loop-place-preserved
loop-place-preserved g c =
    let run = c.args.run.now in
    let held = c.run.inside in
    let place = c.loop-place.place in
    let count : length run ≡ held.count = ap length (sym c.run.view_is) ∙ length-take-le held.count held.entries.value c.run.invariant in
    let inside : place < length run = omega (arith, count, c.loop-place-test.true) in
    elim c.match-get.branch [
      | in-Some+in_ok-entry w ↦
          let f = field w.in-Some.name.now w.in-Some.value.now in
          rw w.ring-is (rw w.put_oldest.ensures (record {
            same =
                ap (λ (es : List Field). es ++ w.in_ok-entry.entry ∷ []) c.loop-place.invariant.same
                ∙ append_assoc c.args.ring.now.items (take place run) (w.in_ok-entry.entry ∷ [])
                ∙ ap (λ (es : List Field). c.args.ring.now.items ++ es) (copied_more run (take place run) place f w.in_ok-entry.entry refl inside (sym w.in-Some.ensures) w.in_ok-entry.ensures);
            places = c.loop-place.invariant.places;
          }))
      | in_default w ↦
          let none : None ≡ slice_get run place = w.in_default.ensures in
          absurd (some-at run place inside none)
    ]
