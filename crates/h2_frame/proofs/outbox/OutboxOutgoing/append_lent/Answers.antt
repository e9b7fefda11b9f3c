use Rattle.std.proofs.Common.{◌++◌, ◌∙◌, ℕ, List, ap, append_assoc, drop, refl, sym}
use Rattle.std.proofs.lemmas.Result.{IfOk-from_err, MatchResult-from_err}
use Rattle.h2_frame.proofs.outbox.OutboxOutgoing.append_lent.Goals as goal

pub returns-in_err-len : goal.returns-in_err-len
returns-in_err-len g c = record {
  ok = IfOk-from_err c.from_residual.result _ c.from_residual.ensures.0;
  no_memory = MatchResult-from_err c.from_residual.result _ _ c.from_residual.ensures.0 (λ _. refl);
}

pub returns-in_err-lend : goal.returns-in_err-lend
returns-in_err-lend g c =
    let front = drop c.self.inside.gone c.self.inside.portion.items in
    let same = ap (λ (xs : List ℕ). front ++ xs) c.in_err-lend.ensures.no_memory ∙ c.self.view_is in
    record {
      ok = IfOk-from_err c.from_residual-in_err-lend.result _ c.from_residual-in_err-lend.ensures.0;
      no_memory = MatchResult-from_err c.from_residual-in_err-lend.result _ _ c.from_residual-in_err-lend.ensures.0 (λ _. same);
    }

pub returns : goal.returns
returns g c =
    let front = drop c.self.inside.gone c.self.inside.portion.items in
    let rest = c.self.inside.rest in
    let head = c.args.head.now in
    let payload = c.args.payload.now in
    record {
      ok =
          ap (λ (xs : List ℕ). front ++ xs) c.in_ok-lend.ensures.ok ∙ sym (append_assoc front (rest ++ head) payload) ∙ ap (λ (xs : List ℕ). xs ++ payload) (sym (append_assoc front rest head))
          ∙ ap (λ (xs : List ℕ). xs ++ head ++ payload) c.self.view_is;
      no_memory = tt;
    }
