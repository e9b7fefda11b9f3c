use Rattle.std.proofs.Common.{◌≡◌, subst, sym}
use Rattle.h2_spec.specs.State.{State}
use Rattle.h2_conn.specs.Checkpoint.{CheckpointView}
use Rattle.h2_conn.proofs.RestoreLaws.{CanRebuild, IsRestored, can-rebuild, restored, restored-sound, state_of_checkpoint, state-restored}
use Rattle.h2_conn.proofs.checkpoint.Checkpoint.state_by.Given.{Over}
use Rattle.h2_conn.proofs.checkpoint.Checkpoint.state_by.Goals as goal

-- what is asked where the records are made again
asked : (g : Over) (c : goal.After-rebuilt-arg-1 g) →
    (let i = c.self.inside in CanRebuild (record { book = i.book.now; config = i.config; core = i.core; block = i.block; table = i.table.table; count = i.count; changing = i.changing }) c.later.inside.streams.streams)
asked g c =
    subst (λ (m : CheckpointView). CanRebuild m c.later.inside.streams.streams) (sym c.self.view_is)
    (subst (λ (s : State). CanRebuild c.args.self.now s.streams) (sym c.later.view_is) (can-rebuild c.args.self.now c.args.later.now c.consistent.ensures c.requires))

pub rebuilt-requires-clause-within : goal.rebuilt-requires-clause-within
rebuilt-requires-clause-within g c = (asked g c).within

pub rebuilt-requires-clause-rising : goal.rebuilt-requires-clause-rising
rebuilt-requires-clause-rising g c = (asked g c).rising

pub rebuilt-requires-clause-changed : goal.rebuilt-requires-clause-changed
rebuilt-requires-clause-changed g c = rw c.in_ok-changing.ensures.same (asked g c).changed

pub rebuilt-requires-clause-known : goal.rebuilt-requires-clause-known
rebuilt-requires-clause-known g c = rw c.in_ok-changing.ensures.same (asked g c).known

pub rebuilt-requires-clause-closed : goal.rebuilt-requires-clause-closed
rebuilt-requires-clause-closed g c = rw c.in_ok-changing.ensures.same (asked g c).closed

pub invariant_of-result : goal.invariant_of-result
invariant_of-result g c =
    let sound = restored-sound c.args.self.now c.args.later.now c.consistent.ensures c.requires in
    let seen = subst (λ (m : CheckpointView). IsRestored m (restored m c.later.inside.streams.streams)) (sym c.self.view_is) (subst (λ (s : State). IsRestored c.args.self.now (restored c.args.self.now s.streams)) (sym c.later.view_is) sound) in
    rw (c.in_ok-streams.ensures.rebuilt, c.in_ok-changing.ensures.same, c.in_ok-table.ensures.same, c.in_ok-block.ensures) (seen.0, c.self.invariant.0, seen.1, c.self.invariant.1)

pub returns-clause-restored : goal.returns-clause-restored
returns-clause-restored g c = λ s marked follows.
    let same = state-restored s c.args.self.now c.args.later.now c.consistent.ensures marked follows in
    let seen = subst (λ (m : CheckpointView). state_of_checkpoint m (Rattle.h2_streams.specs.Rebuilt.rebuilt m.count m.changing c.later.inside.streams.streams) ≡ s) (sym c.self.view_is)
    (subst (λ (t : State). state_of_checkpoint c.args.self.now (Rattle.h2_streams.specs.Rebuilt.rebuilt c.args.self.now.count c.args.self.now.changing t.streams) ≡ s) (sym c.later.view_is) same) in
    rw (c.in_ok-streams.ensures.rebuilt, c.in_ok-changing.ensures.same, c.in_ok-table.ensures.same, c.in_ok-block.ensures) seen

pub invariant_of-later : goal.invariant_of-later
invariant_of-later g c = rw c.rebuilt.ensures.same c.later.invariant

pub returns-in_err-streams-clause-same : goal.returns-in_err-streams-clause-same
returns-in_err-streams-clause-same g c = rw c.rebuilt.ensures.same c.later.view_is

pub invariant_of-later-2 : goal.invariant_of-later-2
invariant_of-later-2 g c = rw c.rebuilt.ensures.same c.later.invariant

pub returns-clause-same : goal.returns-clause-same
returns-clause-same g c = rw c.rebuilt.ensures.same c.later.view_is
