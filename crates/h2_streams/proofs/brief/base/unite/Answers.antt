use Rattle.std.proofs.Common.{◌≡◌, ◌∙◌, ℕ, List, ap, arith, length, subst, sym, take}
use Rattle.std.proofs.lemmas.List.{take_all}
use Rattle.h2_spec.specs.declared.streams.Stream.{Stream}
use Rattle.h2_spec.specs.Stream.{AreRising, Records}
use Rattle.h2_streams.specs.Joined.{Base, with_base}
use Rattle.h2_streams.proofs.brief.base.unite.Goals as goal

all-listed : (b : Base) (own : Records) (n : ℕ) (list : List Stream) → n ≡ length (with_base b own).streams → list ≡ take n (with_base b own).streams → list ≡ (with_base b own).streams
all-listed b own n list many is = is ∙ take_all n (with_base b own).streams (omega (arith, many))

pub of-requires : goal.of-requires
of-requires g c =
    let b = c.args.base.now in
    let own = c.args.own.now in
    let list = all-listed b own c.count.result c.in_ok-list.list.items c.count.ensures c.in_ok-list.ensures in
    subst (λ (n : ℕ). AreRising 0 n c.in_ok-list.list.items) (sym c.last.ensures.value) (subst (λ (rs : List Stream). AreRising 0 own.last rs) (sym list) c.requires.is_joined.rising)

pub returns-clause-own : goal.returns-clause-own
returns-clause-own g c =
    let b = c.args.base.now in
    let own = c.args.own.now in
    let list = all-listed b own c.count.result c.in_ok-list.list.items c.count.ensures c.in_ok-list.ensures in
    c.in_ok-whole.ensures
    ∙ ap (λ (rs : List Stream). let r : Records = record { streams = rs; last = c.last.result } in r) list
    ∙ ap (λ (n : ℕ). let r : Records = record { streams = (with_base b own).streams; last = n } in r) c.last.ensures.value
