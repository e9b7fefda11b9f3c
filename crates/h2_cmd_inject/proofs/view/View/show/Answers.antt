use Rattle.std.proofs.Common.{◌≡◌, ◌∙◌, None, ap}
use Rattle.h2_cmd_dialogue.specs.Steps.{Incoming, incoming_of}
use Rattle.h2_cmd_dialogue.specs.Woven.{Weaving, parts_of}
use Rattle.h2_cmd_inject.proofs.ViewLaws.{item-viewed, tallied-since}
use Rattle.h2_cmd_inject.specs.Views.{is_opening, item_parts}
use Rattle.h2_cmd_inject.specs.declared.view.View.{View}
use Rattle.h2_cmd_inject.proofs.view.View.show.Goals as goal

pub returns-clause-tally : goal.returns-clause-tally
returns-clause-tally g c =
    let a = c.account.new.account in
    tallied-since c.args.self.now.since c.args.self.now.tally c.args.item.now a.facts a.warnings c.put_item.new.self.tally c.in_ok-account.ensures.warnings
    (ap (λ (k : View). k.tally) c.put_item.ensures.rest ∙ ap (λ (k : View). k.tally) c.fit.ensures.rest ∙ c.in_ok-judge.ensures.tally)

pub returns-clause-text : goal.returns-clause-text
returns-clause-text g c =
    let v = c.args.self.now in
    let x = c.args.item.now in
    let a = c.account.new.account in
    let fit = c.fit.ensures.rest in
    let judge = c.judge.ensures.rest in
    let items = ap (λ (k : View). k.items) fit ∙ ap (λ (k : View). k.items) judge in
    let opening = ap (λ (k : View). k.opening) fit ∙ ap (λ (k : View). k.opening) judge in
    let since = ap (λ (k : View). k.since) fit ∙ ap (λ (k : View). k.since) judge in
    let changes = ap (λ (k : View). k.account.changes.items) fit ∙ ap (λ (k : View). k.account.changes.items) judge in
    let weaver = ap (λ (k : View). k.weaver) fit ∙ ap (λ (k : View). k.weaver) judge in
    let parts : c.in_ok-parts.parts ≡ item_parts c.args.steps.now v.weaver x = c.in_ok-parts.ensures.parts
    ∙ ap (λ (w : Weaving). parts_of c.args.steps.now w (incoming_of c.incoming.result) x.sent.now) weaver ∙ ap (λ (i : Incoming). parts_of c.args.steps.now v.weaver i x.sent.now) c.incoming.ensures in
    item-viewed c.args.form v.conn.state (is_opening c.args.form v.items) v.opening v.since (item_parts c.args.steps.now v.weaver x) x _ _ a.facts a.warnings
    c.fit.new.self.account.warnings a.changes.items c.args.out.now.items c.put_item.new.out.items c.in_ok-account.ensures.changes c.in_ok-account.ensures.warnings
    (λ (none : v.since ≡ None). ap (λ (k : View). k.account.warnings) fit ∙ ap (λ k. k.warnings) (c.judge.ensures.warnings none))
    (rw (items, opening, since, changes, parts) at c.in_ok-put_item.ensures.text)
