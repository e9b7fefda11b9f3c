use Rattle.std.proofs.Common.{◌++◌, ◌∙◌, ℕ, List, ap, append_assoc, drop, refl, sym}
use Rattle.std.proofs.lemmas.Result.{IfOk-from_err, MatchResult-from_err}
use Rattle.h2_frame.proofs.outbox.OutboxOutgoing.append_copied.Goals as goal

pub returns-in_err-len : goal.returns-in_err-len
returns-in_err-len g c = record {
  ok = IfOk-from_err c.from_residual.result _ c.from_residual.ensures.0;
  no_memory = MatchResult-from_err c.from_residual.result _ _ c.from_residual.ensures.0 (λ _. refl);
}

pub returns-in_err-copy : goal.returns-in_err-copy
returns-in_err-copy g c =
    let held = drop c.self.inside.gone c.self.inside.portion.items in
    let same = ap (λ (xs : List ℕ). held ++ xs) c.in_err-copy.ensures.no_memory ∙ c.self.view_is in
    record {
      ok = IfOk-from_err c.from_residual-in_err-copy.result _ c.from_residual-in_err-copy.ensures.0;
      no_memory = MatchResult-from_err c.from_residual-in_err-copy.result _ _ c.from_residual-in_err-copy.ensures.0 (λ _. same);
    }

pub returns : goal.returns
returns g c =
    let held = drop c.self.inside.gone c.self.inside.portion.items in
    let old = c.self.inside.rest in
    let head = c.args.head.now in
    let front = c.args.front.now in
    let rest = c.args.rest.now in
    record {
      ok =
          ap (λ (xs : List ℕ). held ++ xs) c.in_ok-copy.ensures.ok ∙ sym (append_assoc held (old ++ head ++ front) rest)
          ∙ ap (λ (xs : List ℕ). xs ++ rest) (sym (append_assoc held (old ++ head) front)) ∙ ap (λ (xs : List ℕ). xs ++ front ++ rest) (sym (append_assoc held old head))
          ∙ ap (λ (xs : List ℕ). xs ++ head ++ front ++ rest) c.self.view_is;
      no_memory = tt;
    }
