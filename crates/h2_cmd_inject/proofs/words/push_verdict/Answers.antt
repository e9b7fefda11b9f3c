use Rattle.std.proofs.Common.{◌∙◌, ap, sym, ◌++◌, List, ℕ}
use Rattle.std.specs.String.{string_bytes}
use Rattle.h2_cmd_inject.specs.Results.{is_shown, line_shown}
use Rattle.h2_cmd_inject.proofs.ResultLaws.{verdict-put}
use Rattle.h2_cmd_inject.proofs.words.push_verdict.Goals as goal

pub returns : goal.returns
returns c =
    let old = c.args.out.now.items in
    verdict-put (is_shown c.args.has_broken c.args.finding.judged) (line_shown c.args.first c.args.finding.line) old c.extend_from_slice.new.self.items
    (string_bytes c.in_ok-text.text) (sym c.is_shown.ensures ∙ c.if-not-is_shown.false) c.in_ok-text.ensures
    (c.in_ok-extend_from_slice.ensures.items ∙ ap (λ (x : List ℕ). old ++ x) c.as_bytes.ensures.value)
