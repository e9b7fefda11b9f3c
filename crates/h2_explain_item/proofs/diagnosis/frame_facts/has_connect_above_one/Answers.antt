use Rattle.h2_frame.specs.Parts.{settings_in}
use Rattle.h2_explain_item.proofs.SettingLaws.{any-more}
use Rattle.h2_explain_item.proofs.diagnosis.frame_facts.has_connect_above_one.Goals as goal

pub loop-place-preserved : goal.loop-place-preserved
loop-place-preserved c =
    any-more (settings_in c.args.settings) c.loop-place.place c.pair_at-number.result c.loop-place.found c.is_bad_connect-found.result c.pair_at-number.ensures c.loop-place.invariant c.is_bad_connect-found.ensures
