-- What a part of a line is refused for, the line is refused for.
use Rattle.std.proofs.Common.{◌≡◌, ap, Result, Ok, Err, Option, Some, None, tests}
use Rattle.h2_cmd_dialogue.specs.Steps.{Step}
use Rattle.h2_cmd_inject.specs.Dialogues.{Reading, Takes, in_last}
use Rattle.h2_cmd_inject.specs.ScriptLines.{with_value}
use Rattle.h2_cmd_inject.specs.Whys.{Reads}
use Rattle.h2_cmd_inject.specs.declared.why.LineRefusal.{LineRefusal}
use Rattle.h2_cmd_inject.specs.declared.why.LineRefusal.TheVariants as refusal
use Rattle.h2_cmd_inject.specs.declared.why.Why.{Why}

pub reads_err : {X Y : Type 0} (f : X → Y) (e : LineRefusal) (said : Result X Why) → Reads (Err e) said → Reads (Err e) (with_value f said)
reads_err f refusal.NoMemory said so = tt
reads_err f (refusal.Because reason) said so = ap (with_value f) so

pub takes_err : {X : Type 0} (f : X → Reading) (e : LineRefusal) (r : Reading) (said : Result X Why) → Reads (Err e) said → Takes (Err e) r (with_value f said)
takes_err f refusal.NoMemory r said so = tt
takes_err f (refusal.Because reason) r said so = ap (with_value f) so
