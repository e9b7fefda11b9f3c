use Rattle.std.proofs.Common.{◌++◌, flat_map, map, ap, ◌∙◌}
use Rattle.h2_spec.specs.Requests.Answer.{plain_literal, status_instruction, update_if}
use Rattle.h2_spec.specs.Hpack.Instruction.{spell}
use Rattle.h2_hpack_instruction.proofs.Responding.{response-is}
use Rattle.h2_hpack_instruction.proofs.response.response_block.Goals as goal

pub returns : goal.returns
returns g c =
    let update = flat_map spell (update_if c.args.size_update_pending) in
    let status = spell (status_instruction c.args.status) in
    let fields = flat_map spell (map plain_literal c.args.fields.now) in
    record {
      block = c.in_ok-write_fields.ensures.ok
          ∙ ap (λ x. x ++ fields) (c.in_ok-write_status.ensures.ok ∙ ap (λ x. x ++ status) (c.in_ok-write_update.ensures.ok ∙ ap (λ x. x ++ update) c.new-block.ensures.items))
          ∙ response-is c.args.size_update_pending c.args.status c.args.fields.now;
    }
