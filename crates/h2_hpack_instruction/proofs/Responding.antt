-- The field block of a response, piece by piece.
use Rattle.std.proofs.Common.{◌≡◌, ℕ, Bool, true, false, List, ◌++◌, flat_map, map, refl}
use Rattle.h2_spec.specs.Requests.Answer.{plain_literal, status_instruction, update_if, response_block}
use Rattle.h2_spec.specs.Hpack.Field.{Field}
use Rattle.h2_spec.specs.Hpack.Instruction.{spell}

pub response-is : (size_update_pending : Bool) (status : ℕ) (fields : List Field) → (flat_map spell (update_if size_update_pending) ++ spell (status_instruction status)) ++ flat_map spell (map plain_literal fields) ≡ response_block size_update_pending status fields
unfolding response_block
response-is true status fields = refl
response-is false status fields = refl
