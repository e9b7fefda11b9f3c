use Rattle.std.proofs.Common.{◌∙◌, Bool, sym, subst}
use Rattle.std.proofs.lemmas.Result.{on_ok_weaker}
use Rattle.h2_explain.specs.Explains.{IsTextIf}
use Rattle.h2_explain.proofs.run_explainer.make_text.Goals as goal

pub returns-then-shows_item-clause-text : goal.returns-then-shows_item-clause-text
returns-then-shows_item-clause-text g c =
    let shown = sym c.shows_item.ensures ∙ c.if-shows_item.true in
    let a = c.account.new.account in
    let ok = c.in_ok-account.ensures in
    on_ok_weaker c.put_text.result
    (λ is. (
      a.facts,
      a.warnings,
      ok.warnings,
      subst (λ (b : Bool). IsTextIf b c.args.form c.args.conn.now.state c.args.item.now c.put_text.new.lines) (sym shown) (_, _, a.changes.items, ok.changes, is),
    ))
    c.put_text.ensures

pub returns-else-shows_item-clause-text : goal.returns-else-shows_item-clause-text
returns-else-shows_item-clause-text g c =
    let hidden = sym c.shows_item.ensures ∙ c.if-shows_item.false in
    (c.account.new.account.facts, c.account.new.account.warnings, c.in_ok-account.ensures.warnings, subst (λ (b : Bool). IsTextIf b c.args.form c.args.conn.now.state c.args.item.now c.clear.new.self) (sym hidden) c.clear.ensures)
