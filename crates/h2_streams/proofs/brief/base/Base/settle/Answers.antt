use Rattle.std.proofs.Common.{◌≡◌, ◌≤◌, ◌∙◌, length, ap, map, subst, sym, take}
use Rattle.h2_spec.specs.declared.streams.Stream.{Stream}
use Rattle.h2_streams.specs.Brief.{brief}
use Rattle.h2_streams.specs.Joined.{Base, joined}
use Rattle.h2_streams.specs.Kept.{Rise}
use Rattle.h2_streams.specs.Rebuilt.{AreKnown}
use Rattle.h2_streams.proofs.BaseLaws.{brief-joined, go-settled, kept-settled}
use Rattle.h2_streams.proofs.PlaceLaws.{rise}
use Rattle.h2_streams.proofs.brief.base.Base.settle.Goals as goal

pub join-requires-clause-rising : goal.join-requires-clause-rising
join-requires-clause-rising g c = subst (λ (b : Base). Rise 0 b.records) (sym c.self.view_is) c.requires.go.is_joined.base_rising

pub join-requires-clause-order : goal.join-requires-clause-order
join-requires-clause-order g c = rw c.as_slice-2.ensures (rise 0 c.args.own.now.last c.args.own.now.streams c.requires.go.own_rising)

pub join-requires-clause-within : goal.join-requires-clause-within
join-requires-clause-within g c = rw c.as_slice-2.ensures (subst (λ (b : Base). b.front ≤ length c.args.own.now.streams) (sym c.self.view_is) c.requires.go.is_joined.within)

pub join-requires-clause-known : goal.join-requires-clause-known
join-requires-clause-known g c = rw c.as_slice-2.ensures (subst (λ (b : Base). AreKnown b.records (take b.front c.args.own.now.streams)) (sym c.self.view_is) c.requires.go.is_joined.known)

pub returns-clause-settled : goal.returns-clause-settled
returns-clause-settled g c =
    let own = c.args.own.now.streams in
    let briefly = (rw c.as_slice-2.ensures at c.in_ok-join.ensures.ok) ∙ ap (λ (b : Base). joined b.records b.front (map brief own)) c.self.view_is ∙ brief-joined c.requires.go.is_joined c.requires.go.base_brief in
    briefly

pub returns-clause-same : goal.returns-clause-same
returns-clause-same g c =
    let own = c.args.own.now.streams in
    let briefly = (rw c.as_slice-2.ensures at c.in_ok-join.ensures.ok) ∙ ap (λ (b : Base). joined b.records b.front (map brief own)) c.self.view_is ∙ brief-joined c.requires.go.is_joined c.requires.go.base_brief in
    let new : Base = record { records = c.join.new.self; front = c.count-self-inside.result } in
    let done = go-settled c.args.self.now new c.args.own.now c.leave_live.new.self c.requires.go c.requires.brief c.leave_live.ensures briefly c.count-self-inside.ensures in
    done.0

pub returns-clause-go : goal.returns-clause-go
returns-clause-go g c =
    let own = c.args.own.now.streams in
    let briefly = (rw c.as_slice-2.ensures at c.in_ok-join.ensures.ok) ∙ ap (λ (b : Base). joined b.records b.front (map brief own)) c.self.view_is ∙ brief-joined c.requires.go.is_joined c.requires.go.base_brief in
    let new : Base = record { records = c.join.new.self; front = c.count-self-inside.result } in
    let done = go-settled c.args.self.now new c.args.own.now c.leave_live.new.self c.requires.go c.requires.brief c.leave_live.ensures briefly c.count-self-inside.ensures in
    done.1

pub returns-then-has_all-clause-settled : goal.returns-then-has_all-clause-settled
returns-then-has_all-clause-settled g c =
    let b = c.args.self.now in
    let all = rw c.as_slice.ensures at c.has_all.ensures c.if-has_all.true in
    kept-settled c.requires.go.is_joined c.requires.go.base_brief all.0 all.1
