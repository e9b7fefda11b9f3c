use Rattle.std.proofs.Common.{◌≡◌, ◌∙◌, [], ◌∷◌, ◌++◌, ℕ, List, Option, None, Ok, Err, Result, ap, length, position, refl, subst, sym}
use Rattle.std.specs.Result.{IfErr, IsErrAnd}
use Rattle.h2_request_book.specs.Fault.{IsRefusal}
use Rattle.h2_request_book.specs.declared.fault.BookFault.{BookFault}
use Rattle.h2_request_book.specs.declared.fault.BookFault.TheVariants.{NoMemory}
use Rattle.std.proofs.lemmas.Result.{IfOk-from_err, MatchResult-from_err}
use Rattle.h2_spec.specs.Requests.Answer.{Entry}
use Rattle.h2_request_book.specs.Firsts.{find, is_for}
use Rattle.h2_request_book.proofs.FirstLaws.{firsts-more}
use Rattle.h2_request_book.proofs.book.Book.add.Goals as goal

-- where memory is refused, the entry is allowed
no_memory : {T : Type 0} (r : Result T BookFault) (number : Option ℕ) → IsErrAnd r (λ e. e ≡ NoMemory) → number ≡ None → IfErr r (IsRefusal number)
no_memory (Ok x) number e h = tt
no_memory (Err y) number e h = subst (IsRefusal number) (sym e) h

pub invariant_of-self-2 : goal.invariant_of-self-2
invariant_of-self-2 g c = λ key.
    let items = c.self.inside.entries.items in
    let stored : Entry = c.in_ok-stored.stored in
    let whole : c.push_reserved.new.self.items ≡ items ++ stored ∷ [] = c.push_reserved.ensures.items ∙ ap (λ xs. xs ++ stored ∷ []) c.reserve.ensures.items in
    let is = sym c.stored-2.view_is in
    let last = c.len.ensures ∙ c.reserve.new.self.ok.0 ∙ ap length c.reserve.ensures.items in
    ap (find key) c.in_ok-note.ensures.noted
    ∙ firsts-more c.self.inside.firsts items stored c.stored-2.inside.method c.stored-2.inside.path c.len.result c.self.invariant (ap (λ (e : Entry). e.method) is) (ap (λ (e : Entry). e.path) is) last key
    ∙ ap (position (is_for key)) (sym whole)

pub invariant_of-self : goal.invariant_of-self
invariant_of-self g c = λ key. c.self.invariant key ∙ ap (position (is_for key)) (sym c.reserve.ensures.items)

pub invariant_of-self-in_err-note : goal.invariant_of-self-in_err-note
invariant_of-self-in_err-note g c = λ key.
    ap (find key) c.in_err-note.ensures.kept ∙ c.self.invariant key ∙ ap (position (is_for key)) (sym c.reserve.ensures.items)

pub returns-in_err-stored-clause-added : goal.returns-in_err-stored-clause-added
returns-in_err-stored-clause-added g c = IfOk-from_err c.from_residual.result _ c.from_residual.ensures.0

pub returns-in_err-stored-clause-allowed : goal.returns-in_err-stored-clause-allowed
returns-in_err-stored-clause-allowed g c = IfOk-from_err c.from_residual.result _ c.from_residual.ensures.0

pub returns-in_err-stored-clause-kept : goal.returns-in_err-stored-clause-kept
returns-in_err-stored-clause-kept g c = MatchResult-from_err c.from_residual.result _ _ c.from_residual.ensures.0 (λ _. refl)

pub returns-in_err-reserve-clause-added : goal.returns-in_err-reserve-clause-added
returns-in_err-reserve-clause-added g c = IfOk-from_err c.from_residual-in_err-reserve.result _ c.from_residual-in_err-reserve.ensures.0

pub returns-in_err-reserve-clause-allowed : goal.returns-in_err-reserve-clause-allowed
returns-in_err-reserve-clause-allowed g c = IfOk-from_err c.from_residual-in_err-reserve.result _ c.from_residual-in_err-reserve.ensures.0

pub returns-in_err-reserve-clause-kept : goal.returns-in_err-reserve-clause-kept
returns-in_err-reserve-clause-kept g c = MatchResult-from_err c.from_residual-in_err-reserve.result _ _ c.from_residual-in_err-reserve.ensures.0 (λ _. ◌∙◌ {b = c.self.inside.entries.items} c.reserve.ensures.items c.self.view_is)

pub returns-in_err-reserve-clause-refused : goal.returns-in_err-reserve-clause-refused
returns-in_err-reserve-clause-refused g c = no_memory c.from_residual-in_err-reserve.result _ c.from_residual-in_err-reserve.ensures.1 c.in_ok-stored.ensures.allowed

pub returns-in_err-note-clause-added : goal.returns-in_err-note-clause-added
returns-in_err-note-clause-added g c = IfOk-from_err c.from_residual-in_err-note.result _ c.from_residual-in_err-note.ensures.0

pub returns-in_err-note-clause-allowed : goal.returns-in_err-note-clause-allowed
returns-in_err-note-clause-allowed g c = IfOk-from_err c.from_residual-in_err-note.result _ c.from_residual-in_err-note.ensures.0

pub returns-in_err-note-clause-kept : goal.returns-in_err-note-clause-kept
returns-in_err-note-clause-kept g c = MatchResult-from_err c.from_residual-in_err-note.result _ _ c.from_residual-in_err-note.ensures.0 (λ _. ◌∙◌ {b = c.self.inside.entries.items} c.reserve.ensures.items c.self.view_is)

pub returns-in_err-note-clause-refused : goal.returns-in_err-note-clause-refused
returns-in_err-note-clause-refused g c = no_memory c.from_residual-in_err-note.result _ c.from_residual-in_err-note.ensures.1 c.in_ok-stored.ensures.allowed

-- the list with one more entry
with_last : (pushed reserved old : List Entry) (stored entry : Entry) → pushed ≡ reserved ++ stored ∷ [] → reserved ≡ old → stored ≡ entry → pushed ≡ old ++ entry ∷ []
with_last pushed reserved old stored entry p r s = p ∙ (λ k. r k ++ s k ∷ [])

pub returns-clause-allowed : goal.returns-clause-allowed
returns-clause-allowed g c = c.in_ok-stored.ensures.allowed

pub returns-clause-added : goal.returns-clause-added
returns-clause-added g c =
    let old = c.self.inside.entries.items in
    with_last c.push_reserved.new.self.items c.reserve.new.self.items c.args.self.now c.in_ok-stored.stored c.args.entry c.push_reserved.ensures.items (◌∙◌ {b = old} c.reserve.ensures.items c.self.view_is) c.in_ok-stored.ensures.same
