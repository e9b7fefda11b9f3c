use Rattle.std.proofs.Common.{List, ap, arith, length, ◌∙◌}
use Rattle.std.proofs.lemmas.Map.Entries.{entries_from_clone}
use Rattle.std.proofs.lemmas.Result.{IfOk-from_err}
use Rattle.h2_spec.specs.Stream.{Records}
use Rattle.h2_spec.specs.declared.streams.Stream.{Stream}
use Rattle.h2_streams.proofs.own.OwnRecords.try_clone.Goals as goal

pub invariant_of-result : goal.invariant_of-result
invariant_of-result g c =
    let same = entries_from_clone _ _ (λ x y h. h) (λ v w h. h) c.self.inside.live.entries c.in_ok-live.live.entries c.in_ok-live.ensures.cases in
    let longer = ap length same in
    rw (c.in_ok-records.ensures, same, c.in_ok-ready.ensures.items) (c.self.invariant.0, omega (arith, longer, c.len.ensures.len, c.in_ok-ready.ensures.enough))

pub returns-in_err-records : goal.returns-in_err-records
returns-in_err-records g c = IfOk-from_err c.from_residual.result _ c.from_residual.ensures.0

pub returns-in_err-ready : goal.returns-in_err-ready
returns-in_err-ready g c = IfOk-from_err c.from_residual-in_err-ready.result _ c.from_residual-in_err-ready.ensures.0

pub returns-in_err-live : goal.returns-in_err-live
returns-in_err-live g c = IfOk-from_err c.from_residual-in_err-live.result _ c.from_residual-in_err-live.ensures.0

pub returns : goal.returns
returns g c =
    let shown = λ (xs : List Stream). let r : Records = record { streams = xs; last = c.self.inside.last } in r in
    ap shown c.in_ok-records.ensures ∙ c.self.view_is
