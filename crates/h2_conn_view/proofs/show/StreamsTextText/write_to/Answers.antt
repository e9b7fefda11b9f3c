use Rattle.std.proofs.Common.{◌≡◌, ◌∙◌, ◌++◌, rules, arith, Some, None}
use Rattle.std.specs.Prelude.{slice_get}
use Rattle.std.proofs.lemmas.Option.{slice_get_within}
use Rattle.h2_io.proofs.Appending.{appends-same, both}
use Rattle.h2_io.proofs.HexTexts.{text-end, text-next}
use Rattle.h2_spec.specs.Texts.Show.{stream_line}
use Rattle.h2_spec.specs.Texts.View.{shown_stream}
use Rattle.h2_conn_view.proofs.Texts.{place-below, streams-next, streams-past}
use Rattle.h2_conn_view.proofs.show.StreamsTextText.write_to.Goals as goal

pub overflow_add-place : goal.overflow_add-place
overflow_add-place g c =
    let at : slice_get c.args.self.now.0.now.streams c.loop-stream.place ≡ Some c.in-Some.stream = search rules in
    omega (arith, place-below 0 c.last-last.result c.loop-stream.place c.args.self.now.0.now.streams c.in-Some.stream (rw c.last-last.ensures.value c.last-last.ensures.rising) at)

pub loop-stream-smaller : goal.loop-stream-smaller
loop-stream-smaller g c =
    let at : slice_get c.args.self.now.0.now.streams c.loop-stream.place ≡ Some c.in-Some.stream = search rules in
    omega (arith, slice_get_within c.args.self.now.0.now.streams c.loop-stream.place c.in-Some.stream at)

pub loop-stream-preserved : goal.loop-stream-preserved
loop-stream-preserved g c =
    let at : slice_get c.args.self.now.0.now.streams c.loop-stream.place ≡ Some c.in-Some.stream = search rules in
    let so_far = c.loop-stream.invariant.written in
    record {
      well = search rules;
      name = c.write_to.ensures.name ∙ c.loop-stream.invariant.name;
      written = (
        so_far.0 ++ stream_line (shown_stream c.in-Some.stream),
        both _ _ _ _ _ so_far.1 (search rules),
        text-next so_far.0 _ _ _ _ (streams-next c.loop-stream.place c.args.self.now.0.now.streams c.in-Some.stream at) so_far.2,
      );
    }

pub returns-clause-octets : goal.returns-clause-octets
returns-clause-octets g c =
    let none : slice_get c.args.self.now.0.now.streams c.loop-stream.place ≡ None = search rules in
    let so_far = c.loop-stream.invariant.written in
    appends-same _ _ _ _ (text-end so_far.0 _ _ (streams-past c.loop-stream.place c.args.self.now.0.now.streams none) so_far.2) so_far.1
