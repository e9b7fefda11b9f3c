use Rattle.std.proofs.Common.{arith, ap, ◌∙◌, sym, cond, true, false, Some, None, eqb, ◌≡◌}
use Rattle.std.proofs.lemmas.Bool.Decides.{nat_tests}
use Rattle.std.specs.Prelude.{slice_get}
use Rattle.h2_streams.proofs.PlaceLaws.{checked, record-at}
use Rattle.h2_streams.proofs.lookup.places.find.Goals as goal

pub returns-in_err-stream : goal.returns-in_err-stream
returns-in_err-stream c =
    let rs = c.args.records.now in
    let at = c.in_err-stream.ensures ∙ ap (slice_get rs) c.place_of.ensures.value in
    rw c.from_residual.ensures (ap (checked c.args.id) at ∙ record-at c.args.id 0 rs c.requires)

pub returns-then-stream-id : goal.returns-then-stream-id
returns-then-stream-id c =
    let rs = c.args.records.now in
    let st = c.in_ok-stream.stream.now in
    let at = c.in_ok-stream.ensures ∙ ap (slice_get rs) c.place_of.ensures.value in
    let same : eqb st.id c.args.id ≡ true = let e = c.if-stream-id.true in grind (arith, nat_tests, e) in
    ap (λ t. cond t (Some st) None) (sym same) ∙ ap (checked c.args.id) at ∙ record-at c.args.id 0 rs c.requires

pub returns-else-stream-id : goal.returns-else-stream-id
returns-else-stream-id c =
    let rs = c.args.records.now in
    let st = c.in_ok-stream.stream.now in
    let at = c.in_ok-stream.ensures ∙ ap (slice_get rs) c.place_of.ensures.value in
    let apart : eqb st.id c.args.id ≡ false = let e = c.if-stream-id.false in grind (arith, nat_tests, e) in
    ap (λ t. cond t (Some st) None) (sym apart) ∙ ap (checked c.args.id) at ∙ record-at c.args.id 0 rs c.requires
