use Rattle.std.proofs.Common.{List, ℕ, [], ◌++◌, is_err, subst, sym, true}
use Rattle.std.proofs.lemmas.List.{append-nil}
use Rattle.std.proofs.lemmas.Result.{IfOk-weaker, err_from_is_err_and}
use Rattle.h2_conn.specs.Connection.{Connection}
use Rattle.h2_explain.specs.Explaining.{IsBeginning, IsExplaining}
use Rattle.h2_explain.specs.Explains.{Gains, IsExplanation}
use Rattle.h2_explain.specs.declared.run.Form.{Form}
use Rattle.h2_explain.proofs.Steps.{all-run, gains-map, gains-then, new-begins, new-explains}
use Rattle.h2_explain.proofs.run.explain_all.Goals as goal

pub returns-clause-summary : goal.returns-clause-summary
returns-clause-summary g c =
    let s = c.args.conn.now.state in
    let e = c.args.explanation.now in
    let start = subst (λ (d : Connection). IsExplaining s [] d e) (sym c.requires.new) (new-explains e.form s e c.requires.fresh) in
    IfOk-weaker c.conclude.result _ _ (λ r h. h s c.args.octets.now (c.in_ok-take_piece.ensures.goes s [] start)) c.conclude.ensures.summary

pub returns-clause-run : goal.returns-clause-run
returns-clause-run g c =
    let s = c.args.conn.now.state in
    let e = c.args.explanation.now in
    let start = subst (λ (d : Connection). IsExplaining s [] d e) (sym c.requires.new) (new-explains e.form s e c.requires.fresh) in
    IfOk-weaker c.conclude.result _ _ (λ r h. all-run s c.args.octets.now c.take_piece.new.conn c.take_piece.new.self (c.in_ok-take_piece.ensures.goes s [] start)) c.conclude.ensures.summary

pub returns-clause-gains : goal.returns-clause-gains
returns-clause-gains g c = λ well.
    let s = c.args.conn.now.state in
    let e = c.args.explanation.now in
    let b = c.args.octets.now in
    let start = subst (λ (d : Connection). IsExplaining s [] d e) (sym c.requires.new) (new-explains e.form s e c.requires.fresh) in
    subst (λ (f : Form). Gains (λ (text : List ℕ). IsExplanation f (is_err c.conclude.result) s b text) (g.O.Output.written c.args.output.now) (g.O.Output.written c.conclude.new.output)) c.in_ok-take_piece.ensures.form
    (gains-then (λ (text : List ℕ). IsBeginning s b c.take_piece.new.self text) _ (g.O.Output.written c.args.output.now) (g.O.Output.written c.take_piece.new.output) (g.O.Output.written c.conclude.new.output)
    (c.in_ok-take_piece.ensures.gains s [] [] start (new-begins e.form s e c.requires.fresh))
    (λ text begins. c.conclude.ensures.gains well s b text (c.in_ok-take_piece.ensures.goes s [] start) begins))

pub returns-in_err-take_piece-clause-gains : goal.returns-in_err-take_piece-clause-gains
returns-in_err-take_piece-clause-gains g c = λ well.
    let s = c.args.conn.now.state in
    let e = c.args.explanation.now in
    let b = c.args.octets.now in
    let start = subst (λ (d : Connection). IsExplaining s [] d e) (sym c.requires.new) (new-explains e.form s e c.requires.fresh) in
    let p = err_from_is_err_and c.from_residual.result c.from_residual.ensures.1 in
    rw p.1 (gains-map (λ (more : List ℕ). (later : List ℕ) → IsExplanation e.form true s (b ++ later) more) (λ (text : List ℕ). IsExplanation e.form true s b text)
    (λ t h. subst (λ (o : List ℕ). IsExplanation e.form true s o t) (append-nil b) (h []))
    (g.O.Output.written c.args.output.now) (g.O.Output.written c.take_piece.new.output)
    (c.in_err-take_piece.ensures.cut well s [] [] start (new-begins e.form s e c.requires.fresh)))

pub returns-in_err-take_piece-clause-flag : goal.returns-in_err-take_piece-clause-flag
returns-in_err-take_piece-clause-flag g c =
    let p = err_from_is_err_and c.from_residual.result c.from_residual.ensures.1 in
    rw (p.1, p.2) (rw c.in_err-take_piece.was at c.take_piece.ensures.flag)
