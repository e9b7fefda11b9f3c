use Rattle.std.proofs.Common.{◌≡◌, ◌<◌, ◌^◌, fold, take}
use Rattle.h2_streams.specs.Hash.{shifted_in}
use Rattle.h2_streams.proofs.lookup.hash.IdHasherHasher.write.Given as goal

abbrev pub invariant-loop-byte : goal.invariant-loop-byte
invariant-loop-byte l = (l.id ≡ fold shifted_in l.initial.self.id (take l.byte-index l.bytes)) × (l.id < 2 ^ 32)
