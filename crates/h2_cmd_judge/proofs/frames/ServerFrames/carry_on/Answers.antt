use Rattle.std.proofs.Common.{◌≡◌, ◌≢◌, ◌++◌, ℕ, Option, Some, None, ap, sym, subst, ◌∙◌}
use Rattle.h2_spec.specs.Hpack.Block.{Decoded, carried_on, progress_with}
use Rattle.h2_fields.specs.Blocks.{outcome_of}
use Rattle.h2_hpack_instruction.specs.declared.fault.BlockFault.TheVariants as faults
use Rattle.h2_cmd_judge.specs.declared.frames.OpenBlock.{OpenBlock}
use Rattle.h2_cmd_judge.specs.ServerFrames.{ServerFrames, block_seen}
use Rattle.h2_cmd_judge.proofs.BlockLaws.{carried-faulty, carried-open, stopped-seen}
use Rattle.h2_cmd_judge.proofs.frames.ServerFrames.carry_on.Goals as goal

shown : ℕ → Option OpenBlock → Decoded → ServerFrames
shown limit opened block = record { limit = limit; block = block; opened = opened }

pub returns-in-Some : goal.returns-in-Some
unfolding shown
returns-in-Some c =
    let d = c.self.inside in
    let piece = c.args.fragment.now in
    let limit = d.table.limit in
    let stays = carried-faulty limit (progress_with d.table.table d.fields) (outcome_of d.rest (Some c.in-Some.field-0)) piece in
    subst (λ (s : ServerFrames). s ≡ record s { block = carried_on s.limit s.block piece }) c.self.view_is
    (rw c.in-Some.is (ap (shown limit d.opened) (sym stays)))

pub returns-in_default-decode_on : goal.returns-in_default-decode_on
unfolding shown
returns-in_default-decode_on c =
    let d = c.self.inside in
    let new = c.decode_on.new in
    let piece = c.args.fragment.now in
    let limit = d.table.limit in
    let after : ServerFrames = shown new.table.limit d.opened (block_seen new.table.table new.fields new.rest d.fault) in
    subst (λ (s : ServerFrames). after ≡ record s { block = carried_on s.limit s.block piece }) c.self.view_is
    (rw c.in_default.is (ap (λ l. shown l d.opened (block_seen new.table.table new.fields new.rest None)) c.decode_on.ensures.limit
    ∙ ap (shown limit d.opened) (sym c.in_default-decode_on.ensures.decoded ∙ carried-open limit d.table.table d.fields d.rest piece)))

pub returns : goal.returns
unfolding shown
returns c =
    let d = c.self.inside in
    let new = c.decode_on.new in
    let f = c.in-Err.fault in
    let piece = c.args.fragment.now in
    let limit = d.table.limit in
    let other : f ≢ faults.NoMemory = c.in_default-fault.not-NoMemory in
    let after : ServerFrames = shown new.table.limit d.opened (block_seen new.table.table new.fields new.rest (Some f)) in
    let stopped = stopped-seen limit (progress_with d.table.table d.fields) (d.rest ++ piece) new.table.table new.fields new.rest f c.in-Err.ensures.fault other in
    subst (λ (s : ServerFrames). after ≡ record s { block = carried_on s.limit s.block piece }) c.self.view_is
    (rw c.in_default.is (ap (λ l. shown l d.opened (block_seen new.table.table new.fields new.rest (Some f))) c.decode_on.ensures.limit
    ∙ ap (shown limit d.opened) (stopped ∙ carried-open limit d.table.table d.fields d.rest piece)))
