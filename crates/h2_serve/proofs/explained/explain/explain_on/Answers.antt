use Rattle.std.proofs.Common.{[], arith, refl}
use Rattle.std.proofs.lemmas.Result.{err_from_is_err_and}
use Rattle.h2_serve.specs.Passes.{grew-none}
use Rattle.h2_serve.specs.Ports.{start_of}
use Rattle.h2_serve.proofs.ServeLemmas.{handles-none}
use Rattle.h2_serve.proofs.ShownLemmas.{grew-shown, more-shown, none-shown, shown-then}
use Rattle.h2_serve.proofs.explained.explain.explain_on.Goals as goal

pub loop-served-init : goal.loop-served-init
loop-served-init g c = record {
  shown =
      rw c.none-clients.ensures
      (none-shown c.args.form (start_of c.args.book.now c.args.config) (g.O.Output.written c.args.output.now) (g.L.Listener.events c.args.listener.now));
  writer = c.requires.writer;
}

pub loop-served-preserved : goal.loop-served-preserved
loop-served-preserved g c = record {
  shown =
      rw c.with-clients.ensures
      (more-shown _ (start_of c.args.book.now c.args.config) [] c.loop-served.served _ _ _ _ _ (g.O.Output.written c.loop-served.output) _
      _ (g.L.Listener.events c.loop-served.listener) _ refl refl
      c.loop-served.invariant.shown c.in_ok-conclusion.ensures.shown);
  writer = c.in_ok-conclusion.ensures.flag;
}

pub returns-in_err-conclusion-clause-wires : goal.returns-in_err-conclusion-clause-wires
returns-in_err-conclusion-clause-wires g c =
    shown-then _ (start_of c.args.book.now c.args.config) [] c.loop-served.served 1 c.args.count _ _ (g.O.Output.written c.loop-served.output) _ (g.L.Listener.events c.loop-served.listener) _
    (omega (arith, c.loop-served-test.true)) c.loop-served.invariant.shown c.in_err-conclusion.ensures.wires

pub returns-clause-wires : goal.returns-clause-wires
returns-clause-wires g c =
    shown-then _ (start_of c.args.book.now c.args.config) [] c.loop-served.served 0 c.args.count _ _ (g.O.Output.written c.loop-served.output) _ (g.L.Listener.events c.loop-served.listener) _
    (omega (arith, c.loop-served.auto.served-end)) c.loop-served.invariant.shown (handles-none (start_of c.args.book.now c.args.config) 0 _ _ refl)

pub returns-in_err-conclusion-clause-grew : goal.returns-in_err-conclusion-clause-grew
returns-in_err-conclusion-clause-grew g c =
    let p = err_from_is_err_and c.from_residual-in_err-conclusion.result c.from_residual-in_err-conclusion.ensures.1 in
    rw (p.1, p.2) (λ well.
    grew-shown _ (start_of c.args.book.now c.args.config) [] c.loop-served.served _ _ (g.O.Output.written c.loop-served.output) _ _ (g.L.Listener.events c.loop-served.listener)
    c.loop-served.invariant.shown (c.in_err-conclusion.ensures.grew well))

pub returns-clause-grew : goal.returns-clause-grew
returns-clause-grew g c = λ well.
    grew-shown _ (start_of c.args.book.now c.args.config) [] c.loop-served.served _ _ (g.O.Output.written c.loop-served.output) _ _ (g.L.Listener.events c.loop-served.listener)
    c.loop-served.invariant.shown (grew-none _)

pub returns-in_err-open-clause-grew : goal.returns-in_err-open-clause-grew
returns-in_err-open-clause-grew g c = λ well. grew-none _
