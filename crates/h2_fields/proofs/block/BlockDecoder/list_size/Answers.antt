use Rattle.std.proofs.Common.{rules}
use Rattle.h2_fields.proofs.block.BlockDecoder.list_size.Goals as goal

pub returns : goal.returns
returns g c = search rules
