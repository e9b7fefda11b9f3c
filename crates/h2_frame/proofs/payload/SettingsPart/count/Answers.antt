use Rattle.std.proofs.Common.{sym}
use Rattle.h2_frame.proofs.Pairs.{length-setting_pairs}
use Rattle.h2_frame.proofs.payload.SettingsPart.count.Goals as goal

pub returns : goal.returns
returns c = sym (length-setting_pairs c.args.self.octets.now)
