use Rattle.std.proofs.Common.{◌∙◌, ap, append-nil, sym, subst, Ok, None, Result, Some}
use Rattle.h2_spec.specs.Texts.Script.{Statement}
use Rattle.h2_spec.specs.declared.scripts.SyntaxKind.{SyntaxKind}
use Rattle.h2_script.specs.Readings.{Adds, with_octets}
use Rattle.h2_script.proofs.Lines.{statement_nothing, statement_words}
use Rattle.h2_script.proofs.line.add_line.Goals as goal

pub returns-then-says_nothing : goal.returns-then-says_nothing
returns-then-says_nothing g c =
    let old = c.args.out.now.items in
    let says = statement_nothing c.args.line.now (sym c.says_nothing.ensures ∙ c.if-says_nothing.true) in
    ap (with_octets old) says ∙ ap (λ o. Ok o) (append-nil old)

pub returns-in-None : goal.returns-in-None
returns-in-None g c =
    let same = statement_words c.args.line.now None (sym c.says_nothing.ensures ∙ c.if-says_nothing.false) c.in-None.ensures in
    subst (λ (r : Result Statement SyntaxKind). Adds c.args.out.now.items c.add_word.new.out.items c.add_word.result r) same c.add_word.ensures

pub returns-in-Some : goal.returns-in-Some
returns-in-Some g c =
    let same = statement_words c.args.line.now (Some (c.in-Some.word.now, c.in-Some.rest.now)) (sym c.says_nothing.ensures ∙ c.if-says_nothing.false) c.in-Some.ensures in
    subst (λ (r : Result Statement SyntaxKind). Adds c.args.out.now.items c.add_words.new.out.items c.add_words.result r) same (c.add_words.ensures c.args.line.now)
