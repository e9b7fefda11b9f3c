use Rattle.std.proofs.Common.{◌≡◌, ◌∙◌, ◌++◌, ℕ, List, ap, codes}
use Rattle.std.proofs.lemmas.Result.{IfOk-weaker}
use Rattle.h2_explain_text.specs.Lines.{ended, indent, started}
use Rattle.h2_explain_text.specs.declared.paint.Role.TheVariants as role
use Rattle.h2_cmd_inject.specs.Asides.{frame_line}
use Rattle.h2_cmd_inject.proofs.aside.frame_line.Goals as goal

pub returns : goal.returns
unfolding frame_line
returns c =
    let line : List ℕ → List ℕ → List ℕ = λ s e. indent ++ (s ++ (c.args.word.now ++ (codes " " ++ (c.as_str.result.now ++ e)))) in
    let same : line c.started-start.result.now c.ended-end.result.now ≡ line (started c.args.paint.0 role.Sent) (ended c.args.paint.0) =
    ap (λ (s : List ℕ). line s c.ended-end.result.now) c.started-start.ensures ∙ ap (λ (e : List ℕ). line (started c.args.paint.0 role.Sent) e) c.ended-end.ensures in
    IfOk-weaker c.string_of.result _ _ (λ text is. (c.as_str.result.now, is ∙ same)) c.string_of.ensures
