use Rattle.std.proofs.Common.{ℕ, List, ap, ◌∙◌, subst, sym}
use Rattle.h2_spec.specs.Hpack.Block.{FieldsSoFar}
use Rattle.h2_fields.specs.Blocks.{BlockSoFar, CanRemain, outcome_of}
use Rattle.h2_fields.proofs.block.BlockDecoder.try_clone.Goals as goal

pub invariant_of-result : goal.invariant_of-result
invariant_of-result g c =
    let d = c.self.inside in
    (c.in_ok-copy_rest.ensures.copied ∙ sym (ap (λ (s : FieldsSoFar). s.fields) c.in_ok-try_clone.ensures.same), subst (λ (r : List ℕ). CanRemain r d.fault) (sym c.in_ok-try_clone-2.ensures.same) c.self.invariant.1)

pub returns : goal.returns
returns g c =
    let d = c.self.inside in
    let so_far = λ (s : FieldsSoFar) (r : List ℕ). let now : BlockSoFar = record { fields = s.fields; due = s.due; outcome = outcome_of r d.fault; ticks = d.ticks } in now in
    record { same = ap (λ (s : FieldsSoFar). so_far s c.in_ok-try_clone-2.field-0) c.in_ok-try_clone.ensures.same ∙ ap (so_far d.collected) c.in_ok-try_clone-2.ensures.same ∙ c.self.view_is }
