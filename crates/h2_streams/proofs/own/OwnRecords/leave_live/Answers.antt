use Rattle.std.proofs.Common.{◌≡◌, ◌∙◌, List, ap, arith, length, rules, sym}
use Rattle.std.proofs.lemmas.Fn.{filter_same}
use Rattle.std.proofs.lemmas.List.Sums.{length-filter}
use Rattle.std.specs.List.{filter}
use Rattle.h2_spec.specs.declared.streams.Stream.{Stream}
use Rattle.h2_spec.specs.Stream.{AreRising, Records, live_count}
use Rattle.h2_streams.specs.Kept.{Rise, entries_of, ids_of, is_ready, lives}
use Rattle.h2_streams.proofs.BaseLaws.{live-rising}
use Rattle.h2_streams.proofs.IdsLaws.{idle-ready}
use Rattle.h2_streams.proofs.JoinedEntries.{own-entries}
use Rattle.h2_streams.proofs.LiveLaws.{kept-anew}
use Rattle.h2_streams.proofs.PlaceLaws.{rise}
use Rattle.h2_streams.proofs.SharedLaws.{filter-twice, ids-within}
use Rattle.h2_streams.proofs.own.OwnRecords.leave_live.Goals as goal

pub enter_each-requires-clause-rising : goal.enter_each-requires-clause-rising
enter_each-requires-clause-rising g c =
    let few = filter_same _ lives _ (λ x b f call. search rules) _ _ c.retain.ensures.filtered in
    let rising = live-rising c.self.inside.last c.self.inside.records.items c.self.invariant.0.rising in
    rw (c.as_slice-records.ensures.value, few) (rise 0 c.self.inside.last (filter lives c.self.inside.records.items) rising)

pub enter_each-requires-clause-order : goal.enter_each-requires-clause-order
enter_each-requires-clause-order g c =
    let few = filter_same _ lives _ (λ x b f call. search rules) _ _ c.retain.ensures.filtered in
    let rising = live-rising c.self.inside.last c.self.inside.records.items c.self.invariant.0.rising in
    rw (c.as_slice-records.ensures.value, few) (rise 0 c.self.inside.last (filter lives c.self.inside.records.items) rising)

pub enter_each-requires-clause-enough : goal.enter_each-requires-clause-enough
enter_each-requires-clause-enough g c =
    let few = filter_same _ lives _ (λ x b f call. search rules) _ _ c.retain.ensures.filtered in
    let rs = c.self.inside.records.items in
    let count = c.self.invariant.0.counted in
    let same : live_count (filter lives rs) ≡ live_count rs = sym (length-filter lives (filter lives rs)) ∙ ap length (filter-twice lives rs) ∙ length-filter lives rs in
    rw (c.as_slice-records.ensures.value, few) (omega (arith, count, same, c.clear.ensures.capacity))

pub invariant_of-self : goal.invariant_of-self
invariant_of-self g c =
    let few = filter_same _ lives _ (λ x b f call. search rules) _ _ c.retain.ensures.filtered in
    let rising = live-rising c.self.inside.last c.self.inside.records.items c.self.invariant.0.rising in
    let s = c.self.inside in
    let rs = filter lives s.records.items in
    let order = rise 0 s.last rs rising in
    let live : c.enter_each.new.live.entries ≡ entries_of lives rs = (rw (c.as_slice-records.ensures.value, few) at c.enter_each.ensures) ∙ own-entries rs order in
    let now = kept-anew s.last rs c.enter_each.new.live.entries rising live in
    let ready : s.ready.items ≡ ids_of is_ready rs = c.self.invariant.0.ready_listed ∙ sym (ids-within lives is_ready idle-ready s.records.items) in
    let same : live_count rs ≡ live_count s.records.items = sym (length-filter lives rs) ∙ ap length (filter-twice lives s.records.items) ∙ length-filter lives s.records.items in
    rw (few, ready) (now, omega (arith, now.counted, c.self.invariant.0.counted, same, c.self.invariant.1))

pub returns : goal.returns
returns g c =
    let few = filter_same _ lives _ (λ x b f call. search rules) _ _ c.retain.ensures.filtered in
    let shown = λ (xs : List Stream). let r : Records = record { streams = xs; last = c.self.inside.last } in r in
    ap shown few ∙ ap (λ (r : Records). let m : Records = record r { streams = filter lives r.streams } in m) c.self.view_is
