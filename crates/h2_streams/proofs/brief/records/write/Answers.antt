use Rattle.std.proofs.Common.{◌∙◌, ap, arith}
use Rattle.std.specs.Prelude.{slice_set}
use Rattle.h2_streams.specs.Brief.{briefs_from}
use Rattle.h2_streams.proofs.BriefLaws.{briefs-length, briefs-put}
use Rattle.h2_streams.proofs.PlaceLaws.{place-within}
use Rattle.h2_streams.proofs.brief.records.write.Goals as goal

pub index_mut-requires : goal.index_mut-requires
index_mut-requires g c =
    let all = briefs_from 0 c.args.runs.now c.args.kinds.now.items in
    let within = place-within c.args.stream.now.id 0 all c.requires.rising c.requires.known in
    let many = briefs-length 0 c.args.runs.now c.args.kinds.now.items in
    let place = rw c.as_slice.ensures.value at c.place_in-place.ensures in
    omega (arith, within, many, place)

pub returns-clause-items : goal.returns-clause-items
returns-clause-items g c =
    let runs = c.args.runs.now in
    let kinds = c.args.kinds.now.items in
    let st = c.args.stream.now in
    let place = rw c.as_slice.ensures.value at c.place_in-place.ensures in
    ap (λ i. briefs_from 0 runs (slice_set kinds i st.kind)) place ∙ briefs-put runs kinds st c.requires.rising c.requires.known
