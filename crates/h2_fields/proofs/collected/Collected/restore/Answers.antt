use Rattle.std.proofs.Common.{◌≡◌, ◌++◌, ◌-◌, ℕ, Bool, List, length, ap, ◌∙◌, sym, map, take}
use Rattle.std.proofs.lemmas.List.{take-map}
use Rattle.h2_spec.specs.Hpack.Block.{FieldsSoFar, list_size}
use Rattle.h2_spec.specs.Hpack.Field.{Field}
use Rattle.h2_hpack_list.specs.Listed.{Listed}
use Rattle.h2_hpack_validity.specs.Mark.{mark_of}
use Rattle.h2_fields.proofs.BatchLaws.{take-both}
use Rattle.h2_fields.proofs.collected.Collected.restore.Goals as goal

so_far : List Field → Bool → FieldsSoFar
so_far fields due = record { fields = fields; due = due }

-- the first fields of both parts are the first of all
first-of-both : (n k count : ℕ) (shared after : List Field) (list now : Listed) (all : FieldsSoFar) → k ≡ n - count → count ≡ length shared → after ≡ take n shared → now.fields ≡ take k list.fields → shared ++ list.fields ≡ all.fields →
    after ++ now.fields ≡ take n all.fields
first-of-both n k count shared after list now all e f a b whole =
    ap (λ (fs : List Field). fs ++ now.fields) a
    ∙ ap (λ (fs : List Field). take n shared ++ fs) (b ∙ ap (λ m. take m list.fields) (e ∙ ap (λ m. n - m) f))
    ∙ sym (take-both n shared list.fields) ∙ ap (λ (fs : List Field). take n fs) whole

pub invariant_of-self : goal.invariant_of-self
invariant_of-self g c =
    let n = c.args.savepoint.count in
    let k = c.saturating_sub-behind.result in
    let list = c.self.inside.list in
    let behind = ap (λ (l : Listed). l.fields) c.truncate-2.ensures in
    let whole = ap (λ (s : FieldsSoFar). s.fields) c.self.view_is in
    let both = first-of-both n k c.len.result c.self.inside.shared c.truncate.new.self list c.truncate-2.new.self c.args.self.now c.saturating_sub-behind.ensures c.len.ensures.count c.truncate.ensures behind whole in (
      c.requires.size ∙ ap list_size (sym both),
      c.truncate-3.ensures.items ∙ ap (take k) c.self.invariant.1 ∙ take-map mark_of k list.fields ∙ ap (map mark_of) (sym behind),
    )

pub returns : goal.returns
unfolding so_far
returns g c =
    let n = c.args.savepoint.count in
    let k = c.saturating_sub-behind.result in
    let behind = ap (λ (l : Listed). l.fields) c.truncate-2.ensures in
    let whole = ap (λ (s : FieldsSoFar). s.fields) c.self.view_is in
    let both = first-of-both n k c.len.result c.self.inside.shared c.truncate.new.self c.self.inside.list c.truncate-2.new.self c.args.self.now c.saturating_sub-behind.ensures c.len.ensures.count c.truncate.ensures behind whole in
    ap (λ (fs : List Field). so_far fs c.args.savepoint.due) both
