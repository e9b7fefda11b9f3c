use Rattle.std.proofs.Common.{◌≡◌, ◌∙◌, false, true, refl, sym, rules}
use Rattle.h2_frame.specs.Items.{item_of}
use Rattle.h2_conn.specs.Connection.{is_ended}
use Rattle.h2_conn.proofs.FirstLaws.{first-none, first-short, first-taken}
use Rattle.h2_conn.proofs.Items.{none-after}
use Rattle.h2_conn.proofs.feed.first.take_first.Goals as goal

pub returns-then-is_ended-clause-ok : goal.returns-then-is_ended-clause-ok
returns-then-is_ended-clause-ok g c =
    let ended : is_ended c.args.state.now.core.phase ≡ true = rw c.phase-phase.ensures at (sym c.is_ended.ensures ∙ c.if-is_ended.true) in
    record { none = none-after c.args.state.now c.args.octets.now ended; same = refl; quiet = refl }

pub item-requires : goal.item-requires
item-requires g c = λ k. (search rules, first-short c.awaits_preface.result c.limit.result c.in-Some.used c.args.octets.now (item_of c.in-Some.item) c.limit.ensures.few c.in-Some.ensures.item)

pub returns-in-None-clause-ok : goal.returns-in-None-clause-ok
returns-in-None-clause-ok g c =
    let goes : is_ended c.args.state.now.core.phase ≡ false = rw c.phase-phase.ensures at (sym c.is_ended.ensures ∙ c.if-is_ended.false) in
    let none = rw (c.awaits_preface.ensures, c.phase-phase.ensures, c.limit.ensures.value) at c.in-None.ensures.item in
    record { none = first-none c.args.state.now c.args.octets.now goes none; same = refl; quiet = refl }

pub returns-in_ok-item-in-Some-clause-ok : goal.returns-in_ok-item-in-Some-clause-ok
returns-in_ok-item-in-Some-clause-ok g c =
    let goes : is_ended c.args.state.now.core.phase ≡ false = rw c.phase-phase.ensures at (sym c.is_ended.ensures ∙ c.if-is_ended.false) in
    let found = rw (c.awaits_preface.ensures, c.phase-phase.ensures, c.limit.ensures.value) at c.in-Some.ensures.item in
    first-taken c.args.state.now c.item.new.self c.args.octets.now (g.O.Outgoing.octets c.args.out.now) (g.O.Outgoing.octets c.item.new.out) (item_of c.in-Some.item) c.in-Some.used goes found c.in_ok-item-in-Some.ensures.ok
