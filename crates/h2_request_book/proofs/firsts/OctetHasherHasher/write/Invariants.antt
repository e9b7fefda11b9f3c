use Rattle.std.proofs.Common.{◌≡◌, ◌<◌, ◌^◌, fold, take}
use Rattle.h2_request_book.specs.Firsts.{mixed}
use Rattle.h2_request_book.proofs.firsts.OctetHasherHasher.write.Given as goal

abbrev pub invariant-loop-byte : goal.invariant-loop-byte
invariant-loop-byte l = (l.hash ≡ fold mixed l.initial.self.hash (take l.byte-index l.bytes)) × (l.hash < 2 ^ 64)
