use Rattle.std.proofs.Common.{sym, arith}
use Rattle.std.proofs.lemmas.Option.{slice_get_past}
use Rattle.h2_spec.specs.Frames.Payload.{setting_pairs}
use Rattle.h2_frame.proofs.payload.SettingsPart.pair.Goals as goal

pub returns-else-place-count : goal.returns-else-place-count
returns-else-place-count c = sym (slice_get_past (setting_pairs c.args.self.octets.now) c.args.place (omega arith))
