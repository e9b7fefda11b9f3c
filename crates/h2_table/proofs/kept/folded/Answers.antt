use Rattle.std.proofs.Common.{◌≡◌, ◌<◌, length, arith, None, slice_get}
use Rattle.h2_hpack_list.proofs.ListParts.{copied-more, some-at}
use Rattle.h2_table.proofs.kept.folded.Goals as goal
use Rattle.h2_table.proofs.kept.folded.Goals.{in-Some+in_ok-append_like, in_default}

pub loop-place-preserved : goal.loop-place-preserved
loop-place-preserved g c =
    let xs = c.args.ring.now.items in
    let place = c.loop-place.place in
    let before = c.loop-place.invariant in
    let inside : place < length xs = omega (arith, c.loop-place-test.true, c.requires.within) in
    elim c.match-get.branch [
      | in-Some+in_ok-append_like w ↦
          rw w.list-is (rw (w.in_ok-append_like.ensures.ok, w.name.ensures, w.value.ensures) (record {
            same = copied-more xs c.loop-place.list.fields c.args.from place w.in-Some.entry.now before.same before.order inside w.in-Some.ensures;
            order = omega (arith, before.order);
          }))
      | in_default w ↦
          let none : None ≡ slice_get xs place = w.in_default.ensures in
          absurd (some-at xs place inside none)
    ]
