use Rattle.std.proofs.Common.{IfSome, Some, take, true≢false, ◌++◌, ap, ◌∙◌, sym, subst, arith}
use Rattle.h2_spec.specs.Hpack.DynamicTable.{entry_at}
use Rattle.h2_table.specs.Edits.{EditOf}
use Rattle.h2_table.specs.Lent.{IsMarked}
use Rattle.h2_table.proofs.Editing.{entry-added, entry-own, entry-past}
use Rattle.h2_table.proofs.edit.Edit.get.Goals as goal

pub returns-then-i-eq0-clause-field : goal.returns-then-i-eq0-clause-field
returns-then-i-eq0-clause-field g c =
    ap (λ i. entry_at i (c.args.self.now.added ++ take c.args.self.now.kept c.args.base.now.table.entries)) (sym c.if-i-eq0.true)

pub returns-in_err-get-clause-marked : goal.returns-in_err-get-clause-marked
returns-in_err-get-clause-marked g c = subst (λ r. IfSome r IsMarked) (sym c.from_residual.ensures) tt

pub returns-then-i-count-clause-marked : goal.returns-then-i-count-clause-marked
returns-then-i-count-clause-marked g c = c.lend.ensures.marked

pub returns-clause-marked : goal.returns-clause-marked
returns-clause-marked g c = c.entry.ensures.marked

pub returns-then-i-count-clause-field : goal.returns-then-i-count-clause-field
returns-then-i-count-clause-field g c =
    let i = c.args.i in
    let items = c.self.inside.added.items in
    let rest = take c.args.self.now.kept c.args.base.now.table.entries in
    ap Some c.lend.ensures.field ∙ entry-added i items rest c.in_ok-get.field-0.now (omega (arith, c.if-i-eq0.false)) (omega (arith, c.if-i-count.true, c.len-count.ensures, c.self.inside.added.ok.0)) c.in_ok-get.ensures.lookup
    ∙ ap (λ (e : EditOf). entry_at i (e.added ++ rest)) c.self.view_is

pub returns-in_err-get-clause-field : goal.returns-in_err-get-clause-field
returns-in_err-get-clause-field g c = absurd (true≢false (sym (c.in_err-get.ensures.variant.1 (omega (arith, c.if-i-eq0.false, c.if-i-count.true, c.len-count.ensures, c.self.inside.added.ok.0)))))

pub returns-then-i-count-2-clause-field : goal.returns-then-i-count-2-clause-field
returns-then-i-count-2-clause-field g c =
    let own = c.args.base.now.table.entries in
    let added = c.self.inside.added.items in
    let count = c.len-count.ensures ∙ c.self.inside.added.ok.0 in
    entry-past c.args.i c.len-count.result c.self.inside.kept added own count c.if-i-count-2.true
    ∙ ap (λ (e : EditOf). entry_at c.args.i (e.added ++ take e.kept own)) c.self.view_is

pub returns-clause-field : goal.returns-clause-field
returns-clause-field g c =
    let own = c.args.base.now.table.entries in
    let added = c.self.inside.added.items in
    let count = c.len-count.ensures ∙ c.self.inside.added.ok.0 in
    c.entry.ensures.field ∙ entry-own c.args.i c.len-count.result c.self.inside.kept added own count c.if-i-count.false c.if-i-count-2.false
    ∙ ap (λ (e : EditOf). entry_at c.args.i (e.added ++ take e.kept own)) c.self.view_is

pub overflow_sub-i : goal.overflow_sub-i
overflow_sub-i g c = omega (arith, c.if-i-eq0.false)

pub overflow_sub-i-2 : goal.overflow_sub-i-2
overflow_sub-i-2 g c = omega (arith, c.if-i-count.false)

pub overflow_sub-i-3 : goal.overflow_sub-i-3
overflow_sub-i-3 g c = omega (arith, c.if-i-count.false)
