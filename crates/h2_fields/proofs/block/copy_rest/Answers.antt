use Rattle.std.proofs.Common.{arith, ◌≡◌, ℕ, ◌<◌, ◌≤◌, List, length, take, ap, ◌∙◌, sym, None, slice_get}
use Rattle.std.proofs.lemmas.Result.{IfOk-from_err}
use Rattle.std.proofs.lemmas.List.{take-take, take_all}
use Rattle.h2_spec.specs.Hpack.Field.{Field, field}
use Rattle.h2_hpack_list.proofs.ListParts.{some-at}
use Rattle.h2_table.proofs.Copied.{copied_more}
use Rattle.h2_fields.proofs.block.copy_rest.Goals as goal
use Rattle.h2_fields.proofs.block.copy_rest.Goals.{in-Some+in_ok-field+in_ok-push, in_default}

-- the copies of before are still in front
in_front : (n i : ℕ) (xs ys zs : List Field) → ys ≡ take i xs → n ≤ i → take n xs ≡ zs → take n ys ≡ zs
in_front n i xs ys zs e h b = ap (take n) e ∙ take-take n i xs h ∙ b

pub loop-place-init : goal.loop-place-init
loop-place-init g c =
    let at = c.len-place.ensures ∙ c.args.fields.now.ok.0 in
    record {
      from = omega (arith, at);
      copied = sym c.requires.begins ∙ ap (λ n. take n c.args.collected.now.fields) (sym at);
    }

pub returns-in_err-field-clause-copied : goal.returns-in_err-field-clause-copied
returns-in_err-field-clause-copied g c = IfOk-from_err c.from_residual.result _ c.from_residual.ensures.0

pub returns-in_err-field-clause-begins : goal.returns-in_err-field-clause-begins
returns-in_err-field-clause-begins g c =
    in_front (length c.args.fields.now.items) c.loop-place.place c.args.collected.now.fields c.loop-place.fields.items c.args.fields.now.items c.loop-place.invariant.copied c.loop-place.invariant.from c.requires.begins

pub returns-in_err-push-clause-copied : goal.returns-in_err-push-clause-copied
returns-in_err-push-clause-copied g c = IfOk-from_err c.from_residual-in_err-push.result _ c.from_residual-in_err-push.ensures.0

pub returns-in_err-push-clause-begins : goal.returns-in_err-push-clause-begins
returns-in_err-push-clause-begins g c =
    in_front (length c.args.fields.now.items) c.loop-place.place c.args.collected.now.fields c.push.new.self.items c.args.fields.now.items (c.in_err-push.ensures.items ∙ c.loop-place.invariant.copied) c.loop-place.invariant.from c.requires.begins

pub loop-place-preserved : goal.loop-place-preserved
loop-place-preserved g c =
    let xs = c.args.collected.now.fields in
    let i = c.loop-place.place in
    let inside : i < length xs = omega arith in
    elim c.match-get.branch [
      | in-Some+in_ok-field+in_ok-push w ↦
          let f = field w.in-Some.name.now w.in-Some.value.now in
          rw w.fields-is (record {
            from = omega (arith, c.loop-place.invariant.from);
            copied = w.in_ok-push.ensures.items ∙ copied_more xs c.loop-place.fields.items i f w.in_ok-field.field c.loop-place.invariant.copied inside (sym w.in-Some.ensures) w.in_ok-field.ensures;
          })
      | in_default w ↦
          let none : None ≡ slice_get xs i = w.in_default.ensures in
          absurd (some-at xs i inside none)
    ]

pub returns-clause-copied : goal.returns-clause-copied
returns-clause-copied g c =
    c.loop-place.invariant.copied ∙ take_all c.loop-place.place c.args.collected.now.fields (omega (arith, c.loop-place-test.false, c.len-place-end.ensures))

pub returns-clause-begins : goal.returns-clause-begins
returns-clause-begins g c =
    in_front (length c.args.fields.now.items) c.loop-place.place c.args.collected.now.fields c.loop-place.fields.items c.args.fields.now.items c.loop-place.invariant.copied c.loop-place.invariant.from c.requires.begins
