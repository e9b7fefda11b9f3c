use Rattle.std.proofs.Common.{◌≡◌, ◌∙◌, ap, subst, sym, None, Some}
use Rattle.std.specs.List.{filter}
use Rattle.h2_spec.specs.Stream.{AreRising, Records, record_of}
use Rattle.h2_streams.specs.Joined.{Base, GoWith, with_base}
use Rattle.h2_streams.specs.Kept.{Rise, lives}
use Rattle.h2_streams.proofs.PlaceLaws.{rise}
use Rattle.h2_streams.proofs.RebuiltLaws.{live-or-absent, live-or-found, live-or-none, rise-filter}
use Rattle.h2_streams.proofs.SharedLaws.{filter-all, rising-all}
use Rattle.h2_streams.proofs.records.Streams.live_or.Goals as goal

-- the live ones are one's own
live-seen : (b : Base) (own : Records) {v : Records} → GoWith b own → with_base b own ≡ v → filter lives own.streams ≡ filter lives v.streams
live-seen b own go is = sym (filter-all lives (λ st e. e) b own go) ∙ ap (λ (r : Records). filter lives r.streams) is

rising-seen : (b : Base) (own : Records) {v : Records} → GoWith b own → with_base b own ≡ v → Rise 0 v.streams
rising-seen b own {v} go is = rise 0 v.last v.streams (subst (λ (r : Records). AreRising 0 r.last r.streams) is (rising-all b own go))

pub returns-in_default : goal.returns-in_default
returns-in_default g c =
    let s = c.self.inside in
    let live = c.in_ok-list.ensures ∙ live-seen s.base s.own c.self.invariant c.self.view_is in
    rw c.in_default.is (live ∙ sym (live-or-none c.args.self.now.streams))

pub returns-in_default-get : goal.returns-in_default-get
returns-in_default-get g c =
    let s = c.self.inside in
    let live = c.in_ok-list.ensures ∙ live-seen s.base s.own c.self.invariant c.self.view_is in
    let absent : record_of c.args.self.now.streams c.in-Some.id ≡ None = sym (rw c.in_default-get.is at c.get.ensures) in
    rw c.in-Some.is (live ∙ sym (live-or-absent c.in-Some.id c.args.self.now.streams absent))

pub insert_closed-requires : goal.insert_closed-requires
insert_closed-requires g c =
    let s = c.self.inside in
    let r = c.args.self.now in
    let live = c.in_ok-list.ensures ∙ live-seen s.base s.own c.self.invariant c.self.view_is in
    let rising = rising-seen s.base s.own c.self.invariant c.self.view_is in
    rw live (rise-filter lives 0 r.streams rising)

pub returns : goal.returns
returns g c =
    let s = c.self.inside in
    let r = c.args.self.now in
    let st = c.in-Some-get.stream in
    let live = c.in_ok-list.ensures ∙ live-seen s.base s.own c.self.invariant c.self.view_is in
    let rising = rising-seen s.base s.own c.self.invariant c.self.view_is in
    let found : record_of r.streams c.in-Some.id ≡ Some st = sym c.in-Some-get.ensures in
    let closed = rw live at c.in_ok-insert_closed.ensures in
    rw c.in-Some.is (closed ∙ live-or-found 0 c.in-Some.id r.streams st rising found)
