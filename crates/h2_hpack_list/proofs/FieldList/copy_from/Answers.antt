use Rattle.std.proofs.Common.{◌≡◌, ◌<◌, length, refl, arith, None, slice_get}
use Rattle.h2_spec.specs.Hpack.Field.{field}
use Rattle.h2_hpack_list.proofs.ListParts.{copied-more, some-at}
use Rattle.h2_hpack_list.proofs.FieldList.copy_from.Goals as goal
use Rattle.h2_hpack_list.proofs.FieldList.copy_from.Goals.{in-Some+in_ok-append_like, in_default}

pub loop-place-preserved : goal.loop-place-preserved
loop-place-preserved g c =
    let xs = c.args.self.now.fields in
    let i = c.loop-place.place in
    let inside : i < length xs = omega (arith, c.loop-place-test.true, c.len-place-end.ensures) in
    elim c.match-get.branch [
      | in-Some+in_ok-append_like w ↦
          let f = field w.in-Some.name.now w.in-Some.value.now in
          rw w.copy-is (rw w.in_ok-append_like.ensures.ok (record {
            from = omega (arith, c.loop-place.invariant.from);
            copied = copied-more xs c.loop-place.copy.fields c.args.from i f c.loop-place.invariant.copied c.loop-place.invariant.from inside w.in-Some.ensures;
            next = refl;
          }))
      | in_default w ↦
          let none : None ≡ slice_get xs i = w.in_default.ensures in
          absurd (some-at xs i inside none)
    ]
