use Rattle.std.proofs.Common.{◌≡◌, ◌∙◌, ap, sym, subst, true, true≢false}
use Rattle.std.specs.Option.{is_some}
use Rattle.h2_spec.specs.declared.streams.Stream.{Stream}
use Rattle.h2_spec.specs.Stream.{Records, record_of}
use Rattle.h2_streams.specs.Joined.{GoWith, with_base}
use Rattle.h2_streams.specs.Put.{can_become}
use Rattle.h2_streams.proofs.BaseLaws.{copied-none, copied-some, live-own, own-stream, the-one}
use Rattle.h2_streams.proofs.SharedLaws.{go-put, put-all}
use Rattle.h2_streams.proofs.brief.base.replace.Goals as goal

pub replace-requires : goal.replace-requires
replace-requires g c =
    let st = c.args.stream in
    let known = copied-some c.get.result c.get.ensures (sym c.is_some.ensures ∙ c.if-is_some.true) in
    subst (λ (x : Stream). can_become x.kind st.kind ≡ true) (own-stream c.args.base.now c.args.own.now c.requires.go st.id known) c.requires.can

pub returns-then-is_some-clause-ok : goal.returns-then-is_some-clause-ok
returns-then-is_some-clause-ok g c =
    let b = c.args.base.now in
    let own = c.args.own.now in
    let st = c.args.stream in
    let old = the-one (record_of own.streams st.id) (copied-some c.get.result c.get.ensures (sym c.is_some.ensures ∙ c.if-is_some.true)) in
    ap (with_base b) c.replace.ensures ∙ put-all b own st old.0 c.requires.go old.1

pub returns-then-is_some-clause-go : goal.returns-then-is_some-clause-go
returns-then-is_some-clause-go g c =
    let b = c.args.base.now in
    let own = c.args.own.now in
    let st = c.args.stream in
    let old = the-one (record_of own.streams st.id) (copied-some c.get.result c.get.ensures (sym c.is_some.ensures ∙ c.if-is_some.true)) in
    subst (λ (o : Records). GoWith b o) (sym c.replace.ensures) (go-put b own st old.0 c.requires.go old.1)

pub returns-clause-known : goal.returns-clause-known
returns-clause-known g c = λ live.
    let none = copied-none c.get.result c.get.ensures (sym c.is_some.ensures ∙ c.if-is_some.false) in
    absurd (true≢false (sym (live-own c.args.base.now c.args.own.now c.requires.go c.args.stream.id live) ∙ ap is_some none))
