use Rattle.std.proofs.Common.{◌≡◌, ◌+◌, drop}
use Rattle.h2_explain_item.specs.ShownBlock.{shown_of}
use Rattle.h2_explain_item.proofs.shown_block.shown_of.Given as goal

abbrev pub invariant-loop-place : goal.invariant-loop-place
invariant-loop-place g l = shown_of 0 l.fields.fields ≡ l.place + shown_of l.size (drop l.place l.fields.fields)
