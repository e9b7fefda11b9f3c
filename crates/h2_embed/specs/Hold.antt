-- What a hold of a connection owns: the same as a `Box` of it, or nothing.
use Rattle.std.specs.Prelude.{Option, Some, None}
use Rattle.std.specs.Box.Ownership.{box_owns}
use Rattle.std.specs.Global.{Global}
use Rattle.std_heap.specs.contracts.GlobalAllocator.TheImpl.{ghosts}
use Rattle.h2_embed.specs.contracts.kept.KeptConnection.{the_row}
use base.Fml.{Fml, ftrue}
use base.Stored.{Coded}
use denote.RawPtr.{Ptr}

abbrev pub hold_owns : Global → Ptr → Option the_row.Denot → Fml
hold_owns alloc p None = ftrue
hold_owns alloc p (Some kept) = box_owns (ghosts.dealloc_token alloc) the_row p kept

abbrev pub kept_coded : Coded the_row.Denot
kept_coded = the_row.coded
