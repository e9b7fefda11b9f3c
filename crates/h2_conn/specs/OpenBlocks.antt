-- Field blocks, at their end and before it.
use Rattle.std.specs.Prelude.{length, ◌==◌, Bool, if◌then◌else◌, Option, Some, None}
use Rattle.h2_spec.specs.declared.causes.Cause.{Cause}
use Rattle.h2_spec.specs.declared.connection.BlockView.{BlockView}
use Rattle.h2_spec.specs.State.{Decoding, OpenBlock}
use Rattle.h2_conn_rules.specs.Block.{refused_end}

-- why a block can't end here, if it can't (RFC 9113, 4.3)
abbrev pub bad_end : Decoding → Option Cause
bad_end d = refused_end (length d.rest == 0) d.due

-- the block that is open after a fragment, as it is shown and decoded
abbrev pub block_after : Option BlockView → Decoding → Option OpenBlock
block_after None d = None
block_after (Some shown) d = Some (record { shown = shown; decoding = Some d })

-- how far a block is decoded, where it goes on
abbrev pub decoding_if : Bool → Decoding → Option Decoding
decoding_if goes_on d = if goes_on then Some d else None

-- what is shown of the open block, and how far it is decoded, if it is decoded further
abbrev pub decoding_in : BlockView → Option Decoding → Option (BlockView × Decoding)
decoding_in shown None = None
decoding_in shown (Some d) = Some (shown, d)
