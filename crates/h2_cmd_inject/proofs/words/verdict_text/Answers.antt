use Rattle.std.proofs.Common.{ℕ, subst}
use Rattle.std.specs.String.{string_bytes}
use Rattle.h2_cmd_inject.specs.Results.{IsVerdict}
use Rattle.h2_cmd_inject.proofs.ResultLaws.{ok-then}
use Rattle.h2_cmd_inject.proofs.words.verdict_text.Goals as goal

pub returns : goal.returns
returns c = ok-then c.format.result c.format.ensures.ok
    (λ text is. subst (λ (n : ℕ). IsVerdict n (string_bytes text)) c.line_shown-line.ensures (string_bytes c.in_ok-wanted.wanted, string_bytes c.in_ok-found.found, is))
