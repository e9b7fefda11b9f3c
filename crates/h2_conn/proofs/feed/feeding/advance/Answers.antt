use Rattle.std.proofs.Common.{rules, ◌≡◌, ◌∙◌, true, false, refl, sym, ap}
use Rattle.h2_frame.specs.Items.{item_of, rest_after}
use Rattle.h2_frame.specs.Rest.{Rest}
use Rattle.h2_conn.specs.Connection.{is_ended}
use Rattle.h2_conn.proofs.Items.{item-fits, item-short, item-taken, none-after, none-comes, none-left}
use Rattle.h2_conn.proofs.feed.feeding.advance.Goals as goal

pub returns-then-is_ended-clause-ok : goal.returns-then-is_ended-clause-ok
returns-then-is_ended-clause-ok g c =
    let ended : is_ended c.args.state.now.core.phase ≡ true = rw c.phase.ensures at (sym c.is_ended.ensures ∙ c.if-is_ended.true) in
    (none-after c.args.state.now c.args.splitter.now.octets ended, refl, refl, refl)

pub item-requires : goal.item-requires
item-requires g c = λ k. (search rules, item-short c.args.splitter.now c.limit.result (item_of c.in-Some.item) c.limit.ensures.few c.in-Some.ensures.item)

pub returns-in-None-clause-ok : goal.returns-in-None-clause-ok
returns-in-None-clause-ok g c =
    let left : c.next.follows.lender-at-none ≡ rest_after c.limit.result c.args.splitter.now = search rules in
    let goes : is_ended c.args.state.now.core.phase ≡ false = rw c.phase.ensures at (sym c.is_ended.ensures ∙ c.if-is_ended.false) in (
      none-comes c.args.splitter.now c.args.state.now c.requires goes (rw c.limit.ensures.value at c.in-None.ensures.item),
      refl,
      ap (λ (r : Rest). r.octets) (left ∙ none-left c.limit.result c.args.splitter.now c.in-None.ensures.item),
      refl,
    )

pub returns-in_ok-item-in-Some-clause-ok : goal.returns-in_ok-item-in-Some-clause-ok
returns-in_ok-item-in-Some-clause-ok g c =
    let left : c.next.follows.lender-at-none ≡ rest_after c.limit.result c.args.splitter.now = search rules in
    let goes : is_ended c.args.state.now.core.phase ≡ false = rw c.phase.ensures at (sym c.is_ended.ensures ∙ c.if-is_ended.false) in
    rw (left, c.limit.ensures.value)
    (item-taken c.args.splitter.now c.args.state.now c.item.new.self (item_of c.in-Some.item) (g.O.Outgoing.octets c.args.out.now) (g.O.Outgoing.octets c.item.new.out)
    c.requires goes (rw c.limit.ensures.value at c.in-Some.ensures.item) c.in_ok-item-in-Some.ensures.ok)

pub returns-in_ok-item-in-Some-clause-fits : goal.returns-in_ok-item-in-Some-clause-fits
returns-in_ok-item-in-Some-clause-fits g c =
    let left : c.next.follows.lender-at-none ≡ rest_after c.limit.result c.args.splitter.now = search rules in
    let goes : is_ended c.args.state.now.core.phase ≡ false = rw c.phase.ensures at (sym c.is_ended.ensures ∙ c.if-is_ended.false) in
    rw (left, c.limit.ensures.value)
    (item-fits c.args.splitter.now c.args.state.now c.item.new.self (item_of c.in-Some.item) (g.O.Outgoing.octets c.args.out.now) (g.O.Outgoing.octets c.item.new.out)
    c.requires goes (rw c.limit.ensures.value at c.in-Some.ensures.item) c.in_ok-item-in-Some.ensures.ok)
