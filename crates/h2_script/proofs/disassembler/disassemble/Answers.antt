use Rattle.std.proofs.Common.{◌≡◌, ◌∙◌, ◌++◌, List, ℕ, ap, arith, sym, subst, true, length, string_bytes}
use Rattle.h2_spec.specs.Frames.Parse.{parse_all}
use Rattle.h2_spec.specs.Texts.Script.{Script}
use Rattle.h2_spec.specs.Texts.Written.{written}
use Rattle.h2_spec.proofs.WrittenLaws.{written_again}
use Rattle.h2_script.specs.Texts.{said_text}
use Rattle.h2_script.proofs.disassembler.disassemble.Goals as goal

pub returns-clause-assembles : goal.returns-clause-assembles
unfolding written parse_all
returns-clause-assembles g c =
    let octets = c.args.octets.now in
    let text : string_bytes c.push_all.new.out ≡ written octets = c.in_ok-push_all.ensures ∙ ap (λ (x : List ℕ). x ++ said_text (length octets) true octets) c.new-out.ensures.bytes in
    subst (λ (t : List ℕ). Script t octets) (sym text) (written_again octets (λ i. let fits = c.type_inv.octets i in omega arith))
