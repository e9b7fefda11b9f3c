use Rattle.std.proofs.Common.{◌≡◌, ◌∙◌, ℕ, List, Some, None, Bor, cond, ltb, ltb-false, length, not, sym, rules, tests}
use Rattle.std.specs.List.{position_or_len}
use Rattle.std.proofs.lemmas.Iterator.{YieldsList-from_slice}
use Rattle.std.proofs.lemmas.Iterator.Search.{position_from_yields_List}
use Rattle.std.proofs.lemmas.List.Sums.{prefix_len-le-length}
use Rattle.h2_cmd_cases.specs.Lines.{begins, line_said}
use Rattle.h2_cmd_cases.proofs.Lists.{first_lent, found_place, no_place}
use Rattle.h2_cmd_cases.proofs.cases.before_title.Goals as goal

abbrev first : List (Bor (List ℕ)) → ℕ
first xs = position_or_len (λ l. begins (line_said l.now)) xs

pub returns-in-Some-clause-value : goal.returns-in-Some-clause-value
returns-in-Some-clause-value c =
    let found : c.position.result ≡ cond (ltb (first c.args.lines.now) (length c.args.lines.now)) (Some (first c.args.lines.now)) None =
    position_from_yields_List (λ l. begins (line_said l.now)) _ _ c.position.result c.position.ensures.ran (YieldsList-from_slice c.args.lines.now c.iter.ensures.rest) (λ x b q k. search (rules, tests)) in
    found_place _ _ _ (sym c.in-Some.is ∙ found) ∙ first_lent (λ l. begins (line_said l)) c.args.lines.now

pub returns-in-None-clause-value : goal.returns-in-None-clause-value
returns-in-None-clause-value c =
    let found : c.position.result ≡ cond (ltb (first c.args.lines.now) (length c.args.lines.now)) (Some (first c.args.lines.now)) None =
    position_from_yields_List (λ l. begins (line_said l.now)) _ _ c.position.result c.position.ensures.ran (YieldsList-from_slice c.args.lines.now c.iter.ensures.rest) (λ x b q k. search (rules, tests)) in
    no_place _ _ _ (prefix_len-le-length (λ l. not (begins (line_said l.now))) c.args.lines.now) (ltb-false (first c.args.lines.now) (length c.args.lines.now)) (sym c.in-None.is ∙ found)
    ∙ first_lent (λ l. begins (line_said l)) c.args.lines.now
