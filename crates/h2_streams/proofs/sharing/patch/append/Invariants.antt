use Rattle.std.proofs.Common.{◌≡◌, ◌++◌, take}
use Rattle.h2_streams.proofs.sharing.patch.append.Given as goal

abbrev pub invariant-loop-record : goal.invariant-loop-record
invariant-loop-record g l = l.list.items ≡ l.fn.list.items ++ take l.record-index l.records
