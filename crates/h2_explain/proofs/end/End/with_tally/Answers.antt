use Rattle.std.proofs.Common.{rules, ◌≡◌, ◌∙◌, ◌++◌, ℕ, List, ap, length}
use Rattle.std.proofs.lemmas.Result.{IfOk-weaker}
use Rattle.h2_explain_text.specs.Lines.{ended}
use Rattle.h2_explain.specs.TallyWords.{all_warnings, tally_words}
use Rattle.h2_explain.proofs.end.End.with_tally.Goals as goal

pub returns : goal.returns
returns g c =
    let s = c.args.self.now in
    let errors : c.len.result ≡ length s.tally.now.errors = search rules in
    let said : ℕ → ℕ → List ℕ → List ℕ = λ n w e. c.args.words.now ++ (tally_words s.since s.rest.items n w c.as_str.result.now ++ e) in
    let same : said c.len.result c.warning_count.result c.ended.result.now ≡ said (length s.tally.now.errors) (all_warnings s.since s.tally.now s.conn.now.state) (ended s.form.color) =
    ap (λ (n : ℕ). said n c.warning_count.result c.ended.result.now) errors
    ∙ ap (λ (w : ℕ). said (length s.tally.now.errors) w c.ended.result.now) c.warning_count.ensures
    ∙ ap (λ (e : List ℕ). said (length s.tally.now.errors) (all_warnings s.since s.tally.now s.conn.now.state) e) c.ended.ensures in
    IfOk-weaker c.string_of.result _ _ (λ text is. (c.args.words.now, c.as_str.result.now, is ∙ same)) c.string_of.ensures
