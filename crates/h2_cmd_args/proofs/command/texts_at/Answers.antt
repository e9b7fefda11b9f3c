use Rattle.std.proofs.Common.{◌≡◌, ◌∙◌, Some, None, map, refl, sym}
use Rattle.std.proofs.lemmas.Result.{IfOk-weaker}
use Rattle.clap.specs.Words.{all_of, found_of, rows_of}
use Rattle.clap.proofs.WalkLemmas.{raw_values-rows}
use Rattle.h2_cmd_args.proofs.command.texts_at.Goals as goal

pub returns-in-Some : goal.returns-in-Some
returns-in-Some c =
    let e : all_of c.args.id.now (rows_of (found_of c.args.matches.now)) ≡ Some (map (λ s. s.now) c.in-Some.texts.now) =
    sym (raw_values-rows (found_of c.args.matches.now) c.args.id.now) ∙ sym c.in-Some.ensures in
    rw e (IfOk-weaker c.from_slice.result _ _ (λ v h. rw h refl) c.from_slice.ensures.items)

pub returns-in-None : goal.returns-in-None
returns-in-None c =
    let e : all_of c.args.id.now (rows_of (found_of c.args.matches.now)) ≡ None =
    sym (raw_values-rows (found_of c.args.matches.now) c.args.id.now) ∙ sym c.in-None.ensures in
    rw (e, c.new.ensures.items) refl
