use Rattle.std.proofs.Common.{arith, ◌≡◌, ℕ, ◌+◌, ◌-◌, ◌++◌, ◌∙◌, ◌∷◌, List, ap, sym, subst, take}
use Rattle.std.proofs.lemmas.Result.{IfOk-from_err, MatchResult-from_err}
use Rattle.h2_spec.specs.Hpack.DynamicTable.{fit, insert, total_size}
use Rattle.h2_spec.specs.Hpack.Field.{Field, field, size}
use Rattle.h2_table.specs.Edits.{EditOf, IsEdit, edited}
use Rattle.h2_table.proofs.Editing.{emptied-table, entered-table}
use Rattle.h2_table.proofs.edit.Edit.insert.Goals as goal

-- what the entries count with one more
entered-size : (left add : ℕ) (es : List Field) (f : Field) → left ≡ total_size es → add ≡ size f → left + add ≡ total_size (f ∷ es)
entered-size left add es f e k = omega (arith, e, k)

pub returns-then-size-max-clause-ok : goal.returns-then-size-max-clause-ok
returns-then-size-max-clause-ok g c =
    let d = c.self.inside in
    let e = c.evict_oldest-kept in
    let own = c.args.base.now.table.entries in
    let f = field c.args.name.now c.args.value.now in
    emptied-table (d.added.items ++ take d.kept own) (e.new.added.items ++ take e.result.0 own) d.max f e.ensures.left (omega arith) ∙ ap (λ (x : EditOf). insert (edited own x) f) c.self.view_is

pub returns-clause-ok : goal.returns-clause-ok
returns-clause-ok g c =
    let d = c.self.inside in
    let e = c.evict_oldest-kept-2 in
    let own = c.args.base.now.table.entries in
    let f = field c.args.name.now c.args.value.now in
    let left = e.new.added.items ++ take e.result.0 own in
    let same : c.saturating_add-size.result ≡ size f = omega arith in
    let was = ap (λ es. fit (es ++ take d.kept own) (d.max - c.saturating_add-size.result)) c.in_ok-reserve.ensures.items in
    let kept = e.ensures.left ∙ was ∙ ap (λ n. fit (d.added.items ++ take d.kept own) (d.max - n)) same in
    let now = ap (λ es. es ++ take e.result.0 own) c.push_front_reserved.ensures.items ∙ ap (λ x. x ∷ left) c.in_ok-entry.ensures in
    entered-table (d.added.items ++ take d.kept own) left _ d.max f kept now (omega arith) ∙ ap (λ (x : EditOf). insert (edited own x) f) c.self.view_is

pub evict_oldest-kept-requires-clause-counted : goal.evict_oldest-kept-requires-clause-counted
evict_oldest-kept-requires-clause-counted g c = (subst (IsEdit c.args.base.now) (sym c.self.view_is) c.requires.belongs).counted

pub evict_oldest-kept-requires-clause-held : goal.evict_oldest-kept-requires-clause-held
evict_oldest-kept-requires-clause-held g c = (subst (IsEdit c.args.base.now) (sym c.self.view_is) c.requires.belongs).held

pub evict_oldest-kept-requires-2-clause-counted : goal.evict_oldest-kept-requires-2-clause-counted
evict_oldest-kept-requires-2-clause-counted g c =
    (subst (IsEdit c.args.base.now) (sym c.self.view_is) c.requires.belongs).counted
    ∙ ap (λ es. total_size (es ++ take c.self.inside.kept c.args.base.now.table.entries)) (sym c.in_ok-reserve.ensures.items)

pub evict_oldest-kept-requires-2-clause-held : goal.evict_oldest-kept-requires-2-clause-held
evict_oldest-kept-requires-2-clause-held g c = (subst (IsEdit c.args.base.now) (sym c.self.view_is) c.requires.belongs).held

pub entry_in-requires : goal.entry_in-requires
entry_in-requires g c = record { marked = c.requires.marked }

pub returns-in_err-reserve-clause-belongs : goal.returns-in_err-reserve-clause-belongs
returns-in_err-reserve-clause-belongs g c =
    let d = c.self.inside in
    let shown = λ (added : List Field). let e : EditOf = record { added = added; kept = d.kept; size = d.size; max = d.max } in e in
    subst (IsEdit c.args.base.now) (sym (ap shown c.in_err-reserve.ensures.items ∙ c.self.view_is)) c.requires.belongs

pub returns-in_err-reserve-clause-ok : goal.returns-in_err-reserve-clause-ok
returns-in_err-reserve-clause-ok g c = IfOk-from_err c.from_residual.result _ c.from_residual.ensures.0

pub returns-in_err-reserve-clause-err : goal.returns-in_err-reserve-clause-err
returns-in_err-reserve-clause-err g c =
    let d = c.self.inside in
    let shown = λ (added : List Field). let e : EditOf = record { added = added; kept = d.kept; size = d.size; max = d.max } in e in
    MatchResult-from_err c.from_residual.result _ _ c.from_residual.ensures.0 (λ _. ap shown c.in_err-reserve.ensures.items ∙ c.self.view_is)

pub returns-in_err-entry-clause-belongs : goal.returns-in_err-entry-clause-belongs
returns-in_err-entry-clause-belongs g c =
    let d = c.self.inside in
    let shown = λ (added : List Field). let e : EditOf = record { added = added; kept = d.kept; size = d.size; max = d.max } in e in
    subst (IsEdit c.args.base.now) (sym (ap shown c.in_ok-reserve.ensures.items ∙ c.self.view_is)) c.requires.belongs

pub returns-in_err-entry-clause-ok : goal.returns-in_err-entry-clause-ok
returns-in_err-entry-clause-ok g c = IfOk-from_err c.from_residual-in_err-entry.result _ c.from_residual-in_err-entry.ensures.0

pub returns-in_err-entry-clause-err : goal.returns-in_err-entry-clause-err
returns-in_err-entry-clause-err g c =
    let d = c.self.inside in
    let shown = λ (added : List Field). let e : EditOf = record { added = added; kept = d.kept; size = d.size; max = d.max } in e in
    MatchResult-from_err c.from_residual-in_err-entry.result _ _ c.from_residual-in_err-entry.ensures.0 (λ _. ap shown c.in_ok-reserve.ensures.items ∙ c.self.view_is)

pub returns-then-size-max-clause-belongs : goal.returns-then-size-max-clause-belongs
returns-then-size-max-clause-belongs g c =
    let was = subst (IsEdit c.args.base.now) (sym c.self.view_is) c.requires.belongs in
    let e = c.evict_oldest-kept.ensures in
    record { counted = e.counted; held = e.held; within = omega (arith, e.within); limited = was.limited }

pub returns-clause-belongs : goal.returns-clause-belongs
returns-clause-belongs g c =
    let own = c.args.base.now.table.entries in
    let f = field c.args.name.now c.args.value.now in
    let was = subst (IsEdit c.args.base.now) (sym c.self.view_is) c.requires.belongs in
    let kept = c.evict_oldest-kept-2 in
    let left = kept.new.added.items ++ take kept.result.0 own in
    let now = ap (λ es. total_size (es ++ take kept.result.0 own)) c.push_front_reserved.ensures.items ∙ ap (λ x. total_size (x ∷ left)) c.in_ok-entry.ensures in
    let count : c.saturating_add-size.result ≡ size f = omega arith in
    record {
      counted = entered-size kept.result.1 c.saturating_add-size.result left f kept.ensures.counted count ∙ sym now;
      held = kept.ensures.held;
      within = omega (arith, kept.ensures.within, c.if-size-max.false);
      limited = was.limited;
    }
