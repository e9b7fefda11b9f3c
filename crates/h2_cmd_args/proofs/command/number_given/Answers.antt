use Rattle.std.proofs.Common.{◌≡◌, ◌∙◌, ℕ, List, Option, Some, None, ap, refl}
use Rattle.std.specs.Prelude.{option_and_then}
use Rattle.std.specs.Str.Parse.{ParsesUnsigned, ExplainsUnsignedError, HasUnsignedDigitsIfOk}
use Rattle.clap.specs.Words.{found_of, one_text}
use Rattle.clap.proofs.WalkLemmas.{one_text-rows}
use Rattle.h2_cmd_args.specs.Grammar.{number_of}
use Rattle.h2_cmd_args.proofs.Numbers.{one_read}
use Rattle.h2_cmd_args.proofs.command.number_given.Goals as goal

pub returns : goal.returns
returns c =
    let text = one_text (found_of c.args.matches.now) c.args.id.now in
    let go : (t : Option (List ℕ)) → text ≡ t → c.get_one.result ≡ option_and_then number_of t = λ t. elim t as (λ t. text ≡ t → c.get_one.result ≡ option_and_then number_of t) [
      | None ↦ λ e. c.get_one.ensures.none e
      | Some u ↦ λ e. one_read (λ bs r. ParsesUnsigned 32 10 bs r × ExplainsUnsignedError 10 bs r × HasUnsignedDigitsIfOk bs r)
          u c.get_one.result (λ u x g. g.0) (c.get_one.ensures.value u e)
    ] in
    go text refl ∙ ap (option_and_then number_of) (one_text-rows (found_of c.args.matches.now) c.args.id.now)
