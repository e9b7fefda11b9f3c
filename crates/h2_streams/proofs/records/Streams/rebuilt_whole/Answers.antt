use Rattle.std.proofs.Common.{◌≡◌, ◌∙◌, List, ap, map, subst, sym, take}
use Rattle.h2_spec.specs.declared.streams.Stream.{Stream}
use Rattle.h2_spec.specs.Stream.{AreRising, Records}
use Rattle.h2_streams.specs.Joined.{Base, GoWith, with_base}
use Rattle.h2_streams.specs.Kept.{Rise}
use Rattle.h2_streams.specs.Rebuilt.{AreKnown, as_in}
use Rattle.h2_streams.proofs.BaseLaws.{go-whole}
use Rattle.h2_streams.proofs.PlaceLaws.{rise}
use Rattle.h2_streams.proofs.RebuiltLaws.{rising-rebuilt}
use Rattle.h2_streams.proofs.records.Streams.rebuilt_whole.Goals as goal

pub write_each-requires-clause-rising : goal.write_each-requires-clause-rising
write_each-requires-clause-rising g c =
    let first = take c.args.count c.args.self.now.streams in
    let list = c.in_ok-list.ensures ∙ ap (λ (v : Records). take c.args.count v.streams) c.self.view_is in
    subst (Rise 0) (sym list) (rise 0 c.args.last first c.requires.rising)

pub write_each-requires-clause-changed : goal.write_each-requires-clause-changed
write_each-requires-clause-changed g c = subst (Rise 0) (sym c.as_slice.ensures.value) c.requires.changed

pub write_each-requires-clause-known : goal.write_each-requires-clause-known
write_each-requires-clause-known g c =
    let list = c.in_ok-list.ensures ∙ ap (λ (v : Records). take c.args.count v.streams) c.self.view_is in
    subst (λ (rs : List Stream). AreKnown rs c.as_slice.result.now) (sym list) (subst (λ (cs : List Stream). AreKnown (take c.args.count c.args.self.now.streams) cs) (sym c.as_slice.ensures.value) c.requires.known)

pub of-requires : goal.of-requires
of-requires g c =
    let changed = c.args.changed.items in
    let first = take c.args.count c.args.self.now.streams in
    let list = c.in_ok-list.ensures ∙ ap (λ (v : Records). take c.args.count v.streams) c.self.view_is in
    let items = c.write_each.ensures.items ∙ ap (λ (cs : List Stream). map (as_in cs) c.in_ok-list.list.items) c.as_slice.ensures.value ∙ ap (map (as_in changed)) list in
    subst (λ (rs : List Stream). AreRising 0 c.args.last rs) (sym items) (rising-rebuilt 0 c.args.last changed first c.requires.rising)

pub invariant_of-result : goal.invariant_of-result
invariant_of-result g c =
    let changed = c.args.changed.items in
    let first = take c.args.count c.args.self.now.streams in
    let list = c.in_ok-list.ensures ∙ ap (λ (v : Records). take c.args.count v.streams) c.self.view_is in
    let items = c.write_each.ensures.items ∙ ap (λ (cs : List Stream). map (as_in cs) c.in_ok-list.list.items) c.as_slice.ensures.value ∙ ap (map (as_in changed)) list in
    let rising = subst (λ (rs : List Stream). AreRising 0 c.args.last rs) (sym items) (rising-rebuilt 0 c.args.last changed first c.requires.rising) in
    let own = subst (λ (r : Records). AreRising 0 r.last r.streams) (sym c.in_ok-own.ensures) rising in
    subst (λ (b : Base). GoWith b c.in_ok-own.own) (sym c.new.ensures) (go-whole c.in_ok-own.own own)

pub returns : goal.returns
returns g c =
    let changed = c.args.changed.items in
    let list = c.in_ok-list.ensures ∙ ap (λ (v : Records). take c.args.count v.streams) c.self.view_is in
    let items = c.write_each.ensures.items ∙ ap (λ (cs : List Stream). map (as_in cs) c.in_ok-list.list.items) c.as_slice.ensures.value ∙ ap (map (as_in changed)) list in
    ap (λ (b : Base). with_base b c.in_ok-own.own) c.new.ensures ∙ c.in_ok-own.ensures ∙ ap (λ (rs : List Stream). let r : Records = record { streams = rs; last = c.args.last } in r) items
