use Rattle.std.proofs.Common.{◌++◌, ◌∙◌, rules}
use Rattle.std.proofs.KnownBytes.{Appends-trans}
use Rattle.std.proofs.lemmas.List.{nil_from_length}
use Rattle.std.specs.Slice.Iter.{chunks_rest}
use Rattle.h2_io.proofs.Appending.{appends-same}
use Rattle.h2_io.proofs.HexTexts.{hex-append, hex-none, text-end, text-next}
use Rattle.h2_io.proofs.hex_text.HexTextText.write_to.Goals as goal

pub loop-chunk-preserved : goal.loop-chunk-preserved
loop-chunk-preserved g c =
    let steps = c.in-Some.ensures.steps in
    let so_far = c.loop-chunk.invariant.spelled in
    record {
      next = search rules;
      finite = tt;
      size = search rules;
      well = search rules;
      name = c.write.ensures.name ∙ c.loop-chunk.invariant.name;
      spelled = (
        so_far.0 ++ c.spelled-digits.result.now,
        Appends-trans _ _ _ _ _ so_far.1 c.in_ok-write.ensures.octets,
        text-next so_far.0 _ _ _ _ (rw (c.spelled-digits.ensures, steps.1.0) (hex-append c.in-Some.chunk.now (chunks_rest c.next.new.self))) so_far.2,
      );
    }

pub returns-clause-octets : goal.returns-clause-octets
returns-clause-octets g c =
    let so_far = c.loop-chunk.invariant.spelled in
    let none = nil_from_length _ c.in-None.ensures.steps.1.0 in
    appends-same _ _ _ _ (text-end so_far.0 _ _ (rw none hex-none) so_far.2) so_far.1
