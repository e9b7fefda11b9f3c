use Rattle.std.proofs.Common.{◌≡◌, ◌∙◌, Some, None, refl, sym}
use Rattle.clap.specs.Words.{first_of, found_of, rows_of}
use Rattle.clap.proofs.WalkLemmas.{first_value-rows}
use Rattle.h2_cmd_args.proofs.command.is_set.Goals as goal

pub returns-in-Some : goal.returns-in-Some
returns-in-Some c =
    let e : first_of c.args.id.now (rows_of (found_of c.args.matches.now)) ≡ Some c.in-Some.text.now =
    sym (first_value-rows (found_of c.args.matches.now) c.args.id.now) ∙ sym c.in-Some.ensures in
    rw e c.eq.ensures

pub returns-in-None : goal.returns-in-None
returns-in-None c =
    let e : first_of c.args.id.now (rows_of (found_of c.args.matches.now)) ≡ None =
    sym (first_value-rows (found_of c.args.matches.now) c.args.id.now) ∙ sym c.in-None.ensures in
    rw e refl
