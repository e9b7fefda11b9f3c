-- Frames whose payload fits a frame (RFC 9113, 4.1).
use Rattle.std.specs.Prelude.{◌<◌, ◌^◌, List, length}
use Rattle.std.specs.List.{AllByRecursion}
use Rattle.h2_spec.specs.Frames.Frame.{Frame}

-- the length of a frame's payload fits the 24 bits that a head has for it (RFC 9113, 4.1)
abbrev pub IsShortFrame : Frame → Type 0
IsShortFrame f = length f.payload < 2 ^ 24

abbrev pub AreShort : List Frame → Type 0
AreShort fs = AllByRecursion IsShortFrame fs
