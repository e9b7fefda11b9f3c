use Rattle.std.proofs.Common.{arith, ap, ◌∙◌, ℕ}
use Rattle.std.specs.Prelude.{slice_set}
use Rattle.h2_streams.specs.Kept.{lives, passes_at}
use Rattle.h2_streams.proofs.PlaceLaws.{place-within, put-at, test-there}
use Rattle.h2_streams.proofs.lookup.places.write.Goals as goal

pub index_mut-requires : goal.index_mut-requires
index_mut-requires g c =
    let within = place-within c.args.stream.id 0 c.args.records.now.items c.requires.rising c.requires.known in
    let place = c.requires.place in
    omega (arith, within, place)

pub returns-clause-items : goal.returns-clause-items
returns-clause-items g c =
    let rs = c.args.records.now.items in
    let st = c.args.stream in
    ap (λ (i : ℕ). slice_set rs i st) c.requires.place ∙ put-at st 0 rs c.requires.rising c.requires.known

pub returns-clause-was_live : goal.returns-clause-was_live
returns-clause-was_live g c =
    let rs = c.args.records.now.items in
    let said = rw c.as_slice.ensures.value at c.is_live_at-was_live.ensures in
    said ∙ ap (passes_at lives rs) c.requires.place ∙ test-there lives c.args.stream.id 0 rs c.requires.rising c.requires.known
