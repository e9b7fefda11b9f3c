use Rattle.std.proofs.Common.{◌≡◌, ◌∙◌, List, ap, length, map, subst, sym, take}
use Rattle.std.proofs.lemmas.List.{take-map}
use Rattle.h2_spec.specs.declared.streams.Stream.{Stream}
use Rattle.h2_spec.specs.Stream.{Records}
use Rattle.h2_streams.specs.Brief.{AreBrief, brief}
use Rattle.h2_streams.specs.Joined.{Base, GoWith, with_base}
use Rattle.h2_streams.proofs.BaseLaws.{first-brief, go-rebuilt}
use Rattle.h2_streams.proofs.JoinedPut.{rising-front}
use Rattle.h2_streams.proofs.records.Streams.rebuilt.Goals as goal

pub of-requires : goal.of-requires
of-requires g c = rising-front 0 0 c.args.last (take c.args.count c.args.self.now.streams) c.args.changed.items c.requires.rising c.requires.changed c.requires.known

pub invariant_of-result : goal.invariant_of-result
invariant_of-result g c =
    let s = c.self.inside in
    let count = c.args.count in
    let changed = c.args.changed.items in
    let first = take count c.args.self.now.streams in
    let B : Base = record { records = map brief first; front = length changed } in
    let of : List Stream → List Stream → Base = λ rs cs. record { records = rs; front = length cs } in
    let settled = ap (λ (b : Base). b.records) c.share.ensures ∙ c.in_ok-settle.ensures.settled ∙ ap (λ (v : Records). map brief v.streams) c.self.view_is in
    let base : c.in_ok-base.base ≡ B = c.in_ok-base.ensures ∙ ap (λ (rs : List Stream). of (take count rs) c.as_slice-2.result.now) settled ∙ ap (λ (rs : List Stream). of rs c.as_slice-2.result.now) (take-map brief count c.args.self.now.streams) ∙ ap (of (map brief first)) c.as_slice-2.ensures.value in
    let bare = subst (λ (v : Records). AreBrief (take count v.streams)) c.self.view_is (first-brief count s.base s.own c.self.invariant (subst AreBrief c.as_slice.ensures (c.are_brief.ensures c.if-not-are_brief.false))) in
    let done = go-rebuilt first changed c.args.last c.requires.rising c.requires.changed c.requires.known c.requires.closed bare in
    subst (λ (b : Base). GoWith b c.in_ok-own.own) (sym base) (subst (λ (o : Records). GoWith B o) (sym c.in_ok-own.ensures) done.1)

pub returns-clause-rebuilt : goal.returns-clause-rebuilt
returns-clause-rebuilt g c =
    let s = c.self.inside in
    let count = c.args.count in
    let changed = c.args.changed.items in
    let first = take count c.args.self.now.streams in
    let B : Base = record { records = map brief first; front = length changed } in
    let of : List Stream → List Stream → Base = λ rs cs. record { records = rs; front = length cs } in
    let settled = ap (λ (b : Base). b.records) c.share.ensures ∙ c.in_ok-settle.ensures.settled ∙ ap (λ (v : Records). map brief v.streams) c.self.view_is in
    let base : c.in_ok-base.base ≡ B = c.in_ok-base.ensures ∙ ap (λ (rs : List Stream). of (take count rs) c.as_slice-2.result.now) settled ∙ ap (λ (rs : List Stream). of rs c.as_slice-2.result.now) (take-map brief count c.args.self.now.streams) ∙ ap (of (map brief first)) c.as_slice-2.ensures.value in
    let bare = subst (λ (v : Records). AreBrief (take count v.streams)) c.self.view_is (first-brief count s.base s.own c.self.invariant (subst AreBrief c.as_slice.ensures (c.are_brief.ensures c.if-not-are_brief.false))) in
    let done = go-rebuilt first changed c.args.last c.requires.rising c.requires.changed c.requires.known c.requires.closed bare in
    ap (λ (b : Base). with_base b c.in_ok-own.own) base ∙ ap (with_base B) c.in_ok-own.ensures ∙ done.0

pub settle-requires-clause-brief : goal.settle-requires-clause-brief
settle-requires-clause-brief g c = subst AreBrief c.as_slice.ensures (c.are_brief.ensures c.if-not-are_brief.false)
