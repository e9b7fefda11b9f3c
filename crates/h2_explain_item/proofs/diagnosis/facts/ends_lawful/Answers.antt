use Rattle.h2_frame.specs.Parts.{settings_in}
use Rattle.h2_explain_item.proofs.SettingLaws.{lawful-more}
use Rattle.h2_explain_item.proofs.diagnosis.facts.ends_lawful.Goals as goal

pub loop-place-preserved : goal.loop-place-preserved
loop-place-preserved c =
    lawful-more (settings_in c.args.settings) c.loop-place.place c.pair_at-number.result c.loop-place.lawful c.lawful_with-lawful.result c.pair_at-number.ensures c.loop-place.invariant c.lawful_with-lawful.ensures
