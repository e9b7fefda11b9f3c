use Rattle.std.proofs.Common.{◌∙◌, ◌==◌, ap, length, unwrap_or, Option, ℕ}
use Rattle.h2_script.proofs.Scans.{unwrap_or-position}
use Rattle.h2_script.proofs.words.place_or_end.Goals as goal

pub returns-clause-place : goal.returns-clause-place
returns-clause-place c =
    c.unwrap_or.ensures ∙ ap (λ (o : Option ℕ). unwrap_or o (length c.args.text.now)) c.place_of.ensures ∙ unwrap_or-position (λ b. b == c.args.octet) c.args.text.now
