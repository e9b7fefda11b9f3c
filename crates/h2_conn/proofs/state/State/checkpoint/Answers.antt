use Rattle.std.proofs.Common.{◌≡◌, ◌∙◌, ℕ, List, Option, ap}
use Rattle.std.proofs.lemmas.Result.{IfOk-from_err}
use Rattle.std.specs.List.{filter}
use Rattle.h2_spec.specs.declared.streams.Stream.{Stream}
use Rattle.h2_spec.specs.Hpack.DynamicTable.{LimitedTable}
use Rattle.h2_spec.specs.State.{OpenBlock}
use Rattle.h2_conn.specs.Checkpoint.{CheckpointView, checkpoint_of}
use Rattle.h2_conn.specs.Follows.{can_change}
use Rattle.h2_conn.proofs.FollowsLaws.{changing-listed}
use Rattle.h2_conn.proofs.state.State.checkpoint.Goals as goal

pub returns : goal.returns
returns g c =
    let s = c.self.inside in
    let listed : c.in_ok-changing.changing ≡ filter (can_change s.block) s.streams.streams = c.in_ok-changing.ensures ∙ changing-listed s.block _ c.reset_by-reset.ensures s.streams.streams in
    let kept : List Stream → Option OpenBlock → LimitedTable → ℕ → CheckpointView = λ changing block table count. record { book = s.book.now; config = s.config; core = s.core; block = block; table = table.table; count = count; changing = changing } in
    let changing = filter (can_change s.block) s.streams.streams in
    ap (λ (x : List Stream). kept x c.in_ok-block.block c.in_ok-table.table c.count.result) listed
    ∙ ap (λ (b : Option OpenBlock). kept changing b c.in_ok-table.table c.count.result) c.in_ok-block.ensures
    ∙ ap (λ (t : LimitedTable). kept changing s.block t c.count.result) c.in_ok-table.ensures.same
    ∙ ap (kept changing s.block s.table) c.count.ensures
    ∙ ap checkpoint_of c.self.view_is

pub returns-in_err-changing : goal.returns-in_err-changing
returns-in_err-changing g c = IfOk-from_err c.from_residual-in_err-changing.result _ c.from_residual-in_err-changing.ensures.0

pub returns-in_err-table : goal.returns-in_err-table
returns-in_err-table g c = IfOk-from_err c.from_residual-in_err-table.result _ c.from_residual-in_err-table.ensures.0

pub returns-in_err-block : goal.returns-in_err-block
returns-in_err-block g c = IfOk-from_err c.from_residual.result _ c.from_residual.ensures.0

pub invariant_of-result : goal.invariant_of-result
invariant_of-result g c = (ap (λ (t : LimitedTable). t.limit) c.in_ok-table.ensures.same ∙ c.self.invariant.1, c.self.invariant.3)
