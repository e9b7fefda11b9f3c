use Rattle.std.proofs.Common.{◌∙◌, ◌+◌, ℕ, List, drop, ap, sym}
use Rattle.h2_frame.specs.Parts.{settings_in}
use Rattle.h2_cmd_judge.specs.Readings.{value_among}
use Rattle.h2_cmd_judge.proofs.ListLaws.{drop-at}
use Rattle.h2_cmd_judge.proofs.reading.value_among.Goals as goal

pub loop-place-preserved : goal.loop-place-preserved
loop-place-preserved c =
    let pairs : List (ℕ × ℕ) = settings_in c.args.settings in
    ap (λ (v : ℕ). value_among c.args.id v (drop (c.loop-place.place + 1) pairs)) c.value_with-value.ensures
    ∙ ap (λ (xs : List (ℕ × ℕ)). value_among c.args.id c.loop-place.value xs) (sym (drop-at c.loop-place.place pairs c.pair_at.result c.pair_at.ensures))
    ∙ c.loop-place.invariant
