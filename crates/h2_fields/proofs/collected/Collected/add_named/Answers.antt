use Rattle.std.proofs.Common.{◌≡◌, ◌++◌, ◌∷◌, ◌-◌, ◌^◌, ℕ, min, Bool, List, [], Some, refl, ap, ◌∙◌, sym, append_assoc}
use Rattle.std.proofs.lemmas.Result.{err_from_is_err_and}
use Rattle.h2_spec.specs.Hpack.Block.{FieldsSoFar, text_result}
use Rattle.h2_spec.specs.Hpack.Field.{Field, field, size}
use Rattle.h2_hpack_list.specs.Listed.{Listed}
use Rattle.h2_hpack_validity.specs.Mark.{mark_of}
use Rattle.h2_table.specs.Lent.{field_lent}
use Rattle.h2_fields.proofs.Applying.{marks-added, read-refused, room-reserved, still-listed, named, put-next, size-behind}
use Rattle.h2_fields.proofs.collected.Collected.add_named.Goals as goal

so_far : List Field → Bool → FieldsSoFar
so_far fields due = record { fields = fields; due = due }

pub invariant_of-self-2 : goal.invariant_of-self-2
invariant_of-self-2 g c =
    let l = c.self.inside.list in
    let value = c.in_ok-put_text.ensures.text in
    let fields = named l c.clear_next.new.self c.put_text.new.list c.close_named.new.self c.args.named.name.now value.0 c.clear_next.ensures value.2 c.in_ok-close_named.ensures.ok in
    let next : c.next-2.result.now ≡ value.0 = c.next-2.ensures ∙ put-next l c.clear_next.new.self c.put_text.new.list value.0 c.clear_next.ensures value.2 in
    let marked : c.next.result.now ≡ value.0 = c.next.ensures ∙ put-next l c.clear_next.new.self c.put_text.new.list value.0 c.clear_next.ensures value.2 in
    let count : c.size_of-size.result ≡ min (size (field c.args.named.name.now value.0)) (2 ^ 64 - 1) = c.size_of-size.ensures ∙ ap (λ (v : List ℕ). min (size (field c.args.named.name.now v)) (2 ^ 64 - 1)) next in
    let mark = c.with_value-mark.ensures (field_lent c.args.named) c.requires.marked ∙ ap (λ (v : List ℕ). mark_of (field c.args.named.name.now v)) marked in (
      c.saturating_add-self-inside.ensures ∙ size-behind c.self.inside.shared l.fields _ (field c.args.named.name.now value.0) c.self.inside.size c.size_of-size.result c.self.invariant.0 count fields,
      c.push_reserved.ensures.items ∙ ap (λ ms. ms ++ c.with_value-mark.result ∷ []) c.in_ok-reserve.ensures.items ∙ marks-added c.self.inside.marks.items l.fields _ (field c.args.named.name.now value.0) c.with_value-mark.result c.self.invariant.1 mark fields,
    )

pub returns : goal.returns
unfolding so_far
returns g c =
    let l = c.self.inside.list in
    let value = c.in_ok-put_text.ensures.text in
    let fields = named l c.clear_next.new.self c.put_text.new.list c.close_named.new.self c.args.named.name.now value.0 c.clear_next.ensures value.2 c.in_ok-close_named.ensures.ok in
    (field c.args.named.name.now value.0, refl, ap text_result value.1, ap (λ (fs : List Field). so_far fs c.self.inside.due) (ap (λ (fs : List Field). c.self.inside.shared ++ fs) fields ∙ sym (append_assoc c.self.inside.shared l.fields (field c.args.named.name.now value.0 ∷ []))) ∙ ap (λ (s : FieldsSoFar). so_far (s.fields ++ field c.args.named.name.now value.0 ∷ []) s.due) c.self.view_is)

pub invariant_of-self : goal.invariant_of-self
invariant_of-self g c =
    let l = c.self.inside.list in
    let same : l.fields ≡ l.fields = refl in
    still-listed c.self.inside.size c.self.inside.shared l.fields l.fields c.reserve.new.self.items c.self.inside.marks.items (c.self.invariant.0, c.self.invariant.1) same c.in_err-reserve.ensures.items

pub returns-in_err-reserve : goal.returns-in_err-reserve
unfolding so_far
returns-in_err-reserve g c =
    let l = c.self.inside.list in
    let same : l.fields ≡ l.fields = refl in
    let r = err_from_is_err_and c.from_residual.result c.from_residual.ensures.1 in
    read-refused _ _ c.args.self.now _ c.from_residual.result r.0 r.1 (ap (λ (fs : List Field). so_far (c.self.inside.shared ++ fs) c.self.inside.due) same ∙ c.self.view_is) (λ other. absurd (other r.2))

pub invariant_of-self-in_err-put_text : goal.invariant_of-self-in_err-put_text
invariant_of-self-in_err-put_text g c =
    let l = c.self.inside.list in
    let same : c.put_text.new.list.fields ≡ l.fields = ap (λ (m : Listed). m.fields) (c.in_err-put_text.ensures.unchanged ∙ c.clear_next.ensures) in
    still-listed c.self.inside.size c.self.inside.shared l.fields c.put_text.new.list.fields c.reserve.new.self.items c.self.inside.marks.items (c.self.invariant.0, c.self.invariant.1) same c.in_ok-reserve.ensures.items

pub returns-in_err-put_text : goal.returns-in_err-put_text
unfolding so_far
returns-in_err-put_text g c =
    let l = c.self.inside.list in
    let same : c.put_text.new.list.fields ≡ l.fields = ap (λ (m : Listed). m.fields) (c.in_err-put_text.ensures.unchanged ∙ c.clear_next.ensures) in
    let r = err_from_is_err_and c.from_residual-in_err-put_text.result c.from_residual-in_err-put_text.ensures.1 in
    read-refused _ _ c.args.self.now _ c.from_residual-in_err-put_text.result r.0 r.1 (ap (λ (fs : List Field). so_far (c.self.inside.shared ++ fs) c.self.inside.due) same ∙ c.self.view_is) (λ other. c.in_err-put_text.ensures.fault (λ e. other (r.2 ∙ e)) ∙ ap Some (sym r.2))

pub invariant_of-self-in_err-like : goal.invariant_of-self-in_err-like
invariant_of-self-in_err-like g c =
    let l = c.self.inside.list in
    let same : c.put_text.new.list.fields ≡ l.fields = ap (λ (m : Listed). m.fields) c.in_ok-put_text.ensures.text.2 ∙ ap (λ (m : Listed). m.fields) c.clear_next.ensures in
    still-listed c.self.inside.size c.self.inside.shared l.fields c.put_text.new.list.fields c.reserve.new.self.items c.self.inside.marks.items (c.self.invariant.0, c.self.invariant.1) same c.in_ok-reserve.ensures.items

pub returns-in_err-like : goal.returns-in_err-like
unfolding so_far
returns-in_err-like g c =
    let l = c.self.inside.list in
    let same : c.put_text.new.list.fields ≡ l.fields = ap (λ (m : Listed). m.fields) c.in_ok-put_text.ensures.text.2 ∙ ap (λ (m : Listed). m.fields) c.clear_next.ensures in
    let r = err_from_is_err_and c.from_residual-in_err-like.result c.from_residual-in_err-like.ensures.1 in
    read-refused _ _ c.args.self.now _ c.from_residual-in_err-like.result r.0 r.1 (ap (λ (fs : List Field). so_far (c.self.inside.shared ++ fs) c.self.inside.due) same ∙ c.self.view_is) (λ other. absurd (other r.2))

pub invariant_of-self-in_err-close_named : goal.invariant_of-self-in_err-close_named
invariant_of-self-in_err-close_named g c =
    let l = c.self.inside.list in
    let same : c.close_named.new.self.fields ≡ l.fields = c.in_err-close_named.ensures.err ∙ ap (λ (m : Listed). m.fields) c.in_ok-put_text.ensures.text.2 ∙ ap (λ (m : Listed). m.fields) c.clear_next.ensures in
    still-listed c.self.inside.size c.self.inside.shared l.fields c.close_named.new.self.fields c.reserve.new.self.items c.self.inside.marks.items (c.self.invariant.0, c.self.invariant.1) same c.in_ok-reserve.ensures.items

pub returns-in_err-close_named : goal.returns-in_err-close_named
unfolding so_far
returns-in_err-close_named g c =
    let l = c.self.inside.list in
    let same : c.close_named.new.self.fields ≡ l.fields = c.in_err-close_named.ensures.err ∙ ap (λ (m : Listed). m.fields) c.in_ok-put_text.ensures.text.2 ∙ ap (λ (m : Listed). m.fields) c.clear_next.ensures in
    let r = err_from_is_err_and c.from_residual-in_err-close_named.result c.from_residual-in_err-close_named.ensures.1 in
    read-refused _ _ c.args.self.now _ c.from_residual-in_err-close_named.result r.0 r.1 (ap (λ (fs : List Field). so_far (c.self.inside.shared ++ fs) c.self.inside.due) same ∙ c.self.view_is) (λ other. absurd (other r.2))

pub push_reserved-requires : goal.push_reserved-requires
push_reserved-requires g c = room-reserved _ _ c.in_ok-reserve.ensures.ok
