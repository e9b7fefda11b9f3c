use Rattle.std.proofs.Common.{◌≡◌, ◌≤◌, ◌∙◌, ℕ, List, Some, None, true, false, ap, arith, cond, eqb, length, subst, sym, take}
use Rattle.std.proofs.lemmas.Bool.Decides.{nat_tests}
use Rattle.std.specs.Prelude.{slice_get}
use Rattle.h2_spec.specs.declared.streams.Stream.{Stream}
use Rattle.h2_spec.specs.declared.streams.StreamState.{StreamState}
use Rattle.h2_streams.specs.declared.brief.runs.IdRun.{IdRun}
use Rattle.h2_streams.specs.Brief.{briefs_from}
use Rattle.h2_streams.specs.Kept.{Rise, place_of}
use Rattle.h2_streams.proofs.BriefLaws.{briefs-length, briefs-take}
use Rattle.h2_streams.proofs.PlaceLaws.{checked, record-at}
use Rattle.h2_streams.proofs.brief.records.BriefRecords.find.Goals as goal

-- the first ones, as they are looked at
seen : (runs others : List IdRun) (kinds more first : List StreamState) (n : ℕ) (rs : List Stream) → others ≡ runs → more ≡ kinds → first ≡ take n more → briefs_from 0 runs kinds ≡ rs → briefs_from 0 others first ≡ take n rs
seen runs others kinds more first n rs a b few is =
    ap (λ (xs : List IdRun). briefs_from 0 xs first) a ∙ ap (briefs_from 0 runs) (few ∙ ap (take n) b) ∙ briefs-take 0 n runs kinds ∙ ap (take n) is

pub first_kinds-kinds-requires : goal.first_kinds-kinds-requires
first_kinds-kinds-requires g c =
    let s = c.self.inside in
    let many = briefs-length 0 s.runs.items s.kinds.items in
    let same = ap length c.self.view_is in
    let len = ap length c.as_slice.ensures.value in
    omega (arith, c.requires.within, many, same, len)

pub place_in-requires-clause-rising : goal.place_in-requires-clause-rising
place_in-requires-clause-rising g c =
    let s = c.self.inside in
    subst (Rise 0) (sym (seen s.runs.items _ s.kinds.items _ _ c.args.count c.args.self.now c.as_slice-runs.ensures.value c.as_slice.ensures.value c.first_kinds-kinds.ensures c.self.view_is)) c.requires.rising

pub returns-in_err-stream : goal.returns-in_err-stream
returns-in_err-stream g c =
    let s = c.self.inside in
    let rs = take c.args.count c.args.self.now in
    let all = seen s.runs.items _ s.kinds.items _ _ c.args.count c.args.self.now c.as_slice-runs.ensures.value c.as_slice.ensures.value c.first_kinds-kinds.ensures c.self.view_is in
    let there = c.place_in.ensures ∙ ap (place_of c.args.id) all in
    rw c.from_residual.ensures (ap (checked c.args.id) (c.in_err-stream.ensures ∙ ap (λ (xs : List Stream). slice_get xs c.place_in.result) all ∙ ap (slice_get rs) there) ∙ record-at c.args.id 0 rs c.requires.rising)

pub returns-then-stream-id : goal.returns-then-stream-id
returns-then-stream-id g c =
    let s = c.self.inside in
    let rs = take c.args.count c.args.self.now in
    let all = seen s.runs.items _ s.kinds.items _ _ c.args.count c.args.self.now c.as_slice-runs.ensures.value c.as_slice.ensures.value c.first_kinds-kinds.ensures c.self.view_is in
    let there = c.place_in.ensures ∙ ap (place_of c.args.id) all in
    let st = c.in_ok-stream.stream in
    let same : eqb st.id c.args.id ≡ true = let e = c.if-stream-id.true in grind (arith, nat_tests, e) in
    ap (λ t. cond t (Some st) None) (sym same) ∙ ap (checked c.args.id) (c.in_ok-stream.ensures ∙ ap (λ (xs : List Stream). slice_get xs c.place_in.result) all ∙ ap (slice_get rs) there) ∙ record-at c.args.id 0 rs c.requires.rising

pub returns-else-stream-id : goal.returns-else-stream-id
returns-else-stream-id g c =
    let s = c.self.inside in
    let rs = take c.args.count c.args.self.now in
    let all = seen s.runs.items _ s.kinds.items _ _ c.args.count c.args.self.now c.as_slice-runs.ensures.value c.as_slice.ensures.value c.first_kinds-kinds.ensures c.self.view_is in
    let there = c.place_in.ensures ∙ ap (place_of c.args.id) all in
    let st = c.in_ok-stream.stream in
    let apart : eqb st.id c.args.id ≡ false = let e = c.if-stream-id.false in grind (arith, nat_tests, e) in
    ap (λ t. cond t (Some st) None) (sym apart) ∙ ap (checked c.args.id) (c.in_ok-stream.ensures ∙ ap (λ (xs : List Stream). slice_get xs c.place_in.result) all ∙ ap (slice_get rs) there) ∙ record-at c.args.id 0 rs c.requires.rising
