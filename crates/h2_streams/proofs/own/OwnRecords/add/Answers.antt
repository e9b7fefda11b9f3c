use Rattle.std.proofs.Common.{◌<◌, length, ◌∙◌, ap, sym, subst, arith}
use Rattle.std.proofs.lemmas.Result.{IfOk-from_err, MatchResult-from_err}
use Rattle.h2_spec.specs.Stream.{Records, is_live}
use Rattle.h2_streams.proofs.LiveLaws.{count-small, kept-absent, kept-added, kept-fewer, one-more}
use Rattle.h2_streams.proofs.own.OwnRecords.add.Goals as goal

pub overflow_sub-more : goal.overflow_sub-more
overflow_sub-more g c =
    let s = c.self.inside in
    let few = kept-fewer s.records.items s.live.entries s.ended s.ready.items s.last c.self.invariant.0 in
    let live = c.len.ensures.len ∙ ap length c.reserve.ensures.entries in
    let ready = ap length c.as_slice.ensures.value in
    omega (arith, few, live, ready)

pub enter-requires-clause-new : goal.enter-requires-clause-new
enter-requires-clause-new g c =
    let s = c.self.inside in
    let st = c.args.stream in
    let above : s.last < st.id = let P : Records → Type 0 = λ v. v.last < st.id in subst P (sym c.self.view_is) c.requires.above in
    rw c.reserve.ensures.entries (kept-absent s.records.items s.live.entries s.ended s.ready.items s.last c.self.invariant.0 st.id above)

pub invariant_of-self-2 : goal.invariant_of-self-2
invariant_of-self-2 g c =
    let s = c.self.inside in
    let st = c.args.stream in
    let above : s.last < st.id = let P : Records → Type 0 = λ v. v.last < st.id in subst P (sym c.self.view_is) c.requires.above in
    let kept = kept-added s.records.items s.live.entries s.ended s.ready.items s.last st c.self.invariant.0 above c.requires.odd in
    let few = kept-fewer s.records.items s.live.entries s.ended s.ready.items s.last c.self.invariant.0 in
    let longer = one-more s.live.entries (is_live st.kind) (st.id, length s.records.items) in
    let small = count-small (is_live st.kind) in
    let place = ap length c.as_slice-place.ensures.value in
    let live = c.len.ensures.len ∙ ap length c.reserve.ensures.entries in
    let ready = ap length c.as_slice.ensures.value in
    let len = c.as_slice.ensures.len in
    let enough = c.in_ok-reserve-2.ensures.ok in
    let grown = c.append.ensures.capacity in
    rw (c.in_ok-push.ensures.items, c.enter.ensures.entries, place, c.append.ensures.items, c.reserve.ensures.entries, c.reserve-2.ensures.items, c.is_live-live.ensures, c.is_ready-ready.ensures) (kept, omega (arith, few, longer, small, live, ready, len, enough, grown))

pub returns-in_err-reserve-clause-ok : goal.returns-in_err-reserve-clause-ok
returns-in_err-reserve-clause-ok g c = IfOk-from_err c.from_residual.result _ c.from_residual.ensures.0

pub returns-in_err-reserve-clause-err : goal.returns-in_err-reserve-clause-err
returns-in_err-reserve-clause-err g c = MatchResult-from_err c.from_residual.result _ _ c.from_residual.ensures.0 (λ _. c.self.view_is)

pub returns-in_err-reserve-2-clause-ok : goal.returns-in_err-reserve-2-clause-ok
returns-in_err-reserve-2-clause-ok g c = IfOk-from_err c.from_residual-in_err-reserve-2.result _ c.from_residual-in_err-reserve-2.ensures.0

pub returns-in_err-reserve-2-clause-err : goal.returns-in_err-reserve-2-clause-err
returns-in_err-reserve-2-clause-err g c = MatchResult-from_err c.from_residual-in_err-reserve-2.result _ _ c.from_residual-in_err-reserve-2.ensures.0 (λ _. c.self.view_is)

pub returns-in_err-push-clause-ok : goal.returns-in_err-push-clause-ok
returns-in_err-push-clause-ok g c = IfOk-from_err c.from_residual-in_err-push.result _ c.from_residual-in_err-push.ensures.0
